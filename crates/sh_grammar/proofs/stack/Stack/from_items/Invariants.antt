use Rattle.std.proofs.Common.{◌≡◌, ◌++◌, length}
use Rattle.sh_grammar.proofs.stack.Stack.from_items.Given as goal

abbrev pub invariant-loop-last : goal.invariant-loop-last
invariant-loop-last g l = l.left ++ l.stack ≡ l.fn.items

abbrev pub decreases-loop-last : goal.decreases-loop-last
decreases-loop-last g l = length l.left
