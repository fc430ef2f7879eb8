use Rattle.std.proofs.Common.{length}
use Rattle.hs_overlay.proofs.routing.+captured.Given as goal

abbrev pub decreases-captured : goal.decreases-captured
decreases-captured l = length l.tables.now
