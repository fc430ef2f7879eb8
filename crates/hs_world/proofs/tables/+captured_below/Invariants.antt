use Rattle.std.proofs.Common.{length}
use Rattle.hs_world.proofs.tables.+captured_below.Given as goal

abbrev pub decreases-captured_below : goal.decreases-captured_below
decreases-captured_below l = length l.tables.now
