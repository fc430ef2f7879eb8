use Rattle.std.proofs.Common.{length}
use Rattle.hs_world.proofs.route.+may_all_stand.Given as goal

abbrev pub decreases-may_all_stand : goal.decreases-may_all_stand
decreases-may_all_stand l = length l.routes.now
