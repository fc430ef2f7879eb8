use Rattle.std.proofs.Common.{◌≡◌, length}
use Rattle.sh_pattern.specs.Classes.{begins}
use Rattle.sh_pattern.proofs.class.begins.Given as goal

abbrev pub invariant-bytes : goal.invariant-bytes
invariant-bytes l = begins l.fn.wanted l.fn.text ≡ begins l.left l.rest

abbrev pub decreases-bytes : goal.decreases-bytes
decreases-bytes l = length l.left
