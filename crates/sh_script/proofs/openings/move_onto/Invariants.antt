use Rattle.std.proofs.Common.{◌≡◌, ◌++◌, length}
use Rattle.sh_script.proofs.openings.move_onto.Given as goal

abbrev pub invariant-numbers : goal.invariant-numbers
invariant-numbers l = l.numbers ++ l.stack ≡ l.fn.numbers ++ l.fn.stack

abbrev pub decreases-numbers : goal.decreases-numbers
decreases-numbers l = length l.numbers
