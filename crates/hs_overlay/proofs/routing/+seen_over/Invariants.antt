use Rattle.std.proofs.Common.{length}
use Rattle.hs_overlay.proofs.routing.+seen_over.Given as goal

abbrev pub decreases-seen_over : goal.decreases-seen_over
decreases-seen_over l = length l.tables.now
