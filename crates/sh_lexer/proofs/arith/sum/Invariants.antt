use Rattle.std.proofs.Common.{◌≡◌, length}
use Rattle.sh_lexer.specs.Lex as spec
use Rattle.sh_lexer.specs.Runs.{with_sum}
use Rattle.sh_lexer.proofs.arith.sum.Given as goal

abbrev pub invariant-loop-bytes : goal.invariant-loop-bytes
invariant-loop-bytes l = with_sum l.bytes.items (spec.sum l.count l.left) ≡ spec.sum l.fn.count l.fn.text

abbrev pub decreases-loop-bytes : goal.decreases-loop-bytes
decreases-loop-bytes l = length l.left
