use Rattle.std.proofs.Common.{length}
use Rattle.hs_overlay.proofs.routing.+taker.Given as goal

abbrev pub decreases-taker : goal.decreases-taker
decreases-taker l = length l.tables.now
