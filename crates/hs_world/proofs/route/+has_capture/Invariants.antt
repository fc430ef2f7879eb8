use Rattle.std.proofs.Common.{length}
use Rattle.hs_world.proofs.route.+has_capture.Given as goal

abbrev pub decreases-has_capture : goal.decreases-has_capture
decreases-has_capture l = length l.routes.now
