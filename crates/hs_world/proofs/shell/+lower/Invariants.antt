use Rattle.std.proofs.Common.{length}
use Rattle.hs_world.proofs.shell.+lower.Given as goal

abbrev pub decreases-lower : goal.decreases-lower
decreases-lower l = length l.shells.now
