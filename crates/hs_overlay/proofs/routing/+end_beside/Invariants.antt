use Rattle.std.proofs.Common.{length}
use Rattle.hs_overlay.proofs.routing.+end_beside.Given as goal

abbrev pub decreases-end_beside : goal.decreases-end_beside
decreases-end_beside l = length l.routes.now
