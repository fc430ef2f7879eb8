use Rattle.std.proofs.Common.{◌≡◌, length}
use Rattle.sh_lexer.specs.Bytes.{all_in_name}
use Rattle.hs_main.proofs.variables.all_in_name.Given as goal

abbrev pub invariant-loop-left : goal.invariant-loop-left
invariant-loop-left l = all_in_name l.left ≡ all_in_name l.fn.bytes

abbrev pub decreases-loop-left : goal.decreases-loop-left
decreases-loop-left l = length l.left
