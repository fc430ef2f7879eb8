use Rattle.std.proofs.Common.{length}
use Rattle.hs_world.proofs.route.+has_same.Given as goal

abbrev pub decreases-has_same : goal.decreases-has_same
decreases-has_same l = length l.routes.now
