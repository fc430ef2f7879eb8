use Rattle.std.proofs.Common.{◌≡◌, ◌≤◌, length}
use Rattle.sh_lexer.specs.Bytes.{number}
use Rattle.sh_lexer.proofs.word.descriptor.Given as goal

abbrev pub invariant-loop-left : goal.invariant-loop-left
invariant-loop-left l = (number l.number l.left ≡ number 0 l.fn.digits) × l.number ≤ 2

abbrev pub decreases-loop-left : goal.decreases-loop-left
decreases-loop-left l = length l.left
