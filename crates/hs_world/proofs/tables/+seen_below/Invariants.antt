use Rattle.std.proofs.Common.{length}
use Rattle.hs_world.proofs.tables.+seen_below.Given as goal

abbrev pub decreases-seen_below : goal.decreases-seen_below
decreases-seen_below l = length l.tables.now
