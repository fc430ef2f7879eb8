use Rattle.std.proofs.Common.{◌≡◌, ◌++◌, length}
use Rattle.sh_spell.proofs.back.Back.put_all.Given as goal

abbrev pub invariant-loop-left : goal.invariant-loop-left
invariant-loop-left l = l.left ++ l.self ≡ l.fn.bytes ++ l.fn.self

abbrev pub decreases-loop-left : goal.decreases-loop-left
decreases-loop-left l = length l.left
