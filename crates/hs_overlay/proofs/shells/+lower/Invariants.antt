use Rattle.std.proofs.Common.{length}
use Rattle.hs_overlay.proofs.shells.+lower.Given as goal

abbrev pub decreases-lower : goal.decreases-lower
decreases-lower l = length l.shells.now
