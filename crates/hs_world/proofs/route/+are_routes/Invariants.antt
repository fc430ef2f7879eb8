use Rattle.std.proofs.Common.{length}
use Rattle.hs_world.proofs.route.+are_routes.Given as goal

abbrev pub decreases-are_routes : goal.decreases-are_routes
decreases-are_routes l = length l.routes.now
