use Rattle.std.proofs.Common.{◌≡◌, length}
use Rattle.sh_lexer.specs.Bytes as spec
use Rattle.sh_lexer.proofs.bytes.piece.Given as goal

abbrev pub invariant-loop-left : goal.invariant-loop-left
invariant-loop-left l = spec.with_front l.bytes.items (spec.piece (spec.stands l.fn.class) l.left) ≡ spec.piece (spec.stands l.fn.class) l.fn.text

abbrev pub decreases-loop-left : goal.decreases-loop-left
decreases-loop-left l = length l.left
