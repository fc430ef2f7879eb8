use Rattle.std.proofs.Common.{length}
use Rattle.hs_world.proofs.tables.+end_below.Given as goal

abbrev pub decreases-end_below : goal.decreases-end_below
decreases-end_below l = length l.tables.now
