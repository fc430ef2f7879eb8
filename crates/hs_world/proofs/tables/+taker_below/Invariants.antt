use Rattle.std.proofs.Common.{length}
use Rattle.hs_world.proofs.tables.+taker_below.Given as goal

abbrev pub decreases-taker_below : goal.decreases-taker_below
decreases-taker_below l = length l.tables.now
