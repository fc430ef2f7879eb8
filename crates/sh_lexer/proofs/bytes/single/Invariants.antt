use Rattle.std.proofs.Common.{◌≡◌, length}
use Rattle.sh_lexer.specs.Bytes as spec
use Rattle.sh_lexer.proofs.bytes.single.Given as goal

abbrev pub invariant-loop-left : goal.invariant-loop-left
invariant-loop-left l = spec.map_front l.bytes.items (spec.single l.left) ≡ spec.single l.fn.text

abbrev pub decreases-loop-left : goal.decreases-loop-left
decreases-loop-left l = length l.left
