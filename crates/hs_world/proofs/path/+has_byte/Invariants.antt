use Rattle.std.proofs.Common.{length}
use Rattle.hs_world.proofs.path.+has_byte.Given as goal

abbrev pub decreases-has_byte : goal.decreases-has_byte
decreases-has_byte l = length l.bytes.now
