use Rattle.std.proofs.Common.{◌≡◌, length}
use Rattle.sh_lexer.specs.Cut as spec
use Rattle.sh_lexer.proofs.cut.backquoted.Given as goal

abbrev pub invariant-loop-left : goal.invariant-loop-left
invariant-loop-left l = spec.text_onto l.bytes.items (spec.backquoted l.left) ≡ spec.backquoted l.fn.text

abbrev pub decreases-loop-left : goal.decreases-loop-left
decreases-loop-left l = length l.left
