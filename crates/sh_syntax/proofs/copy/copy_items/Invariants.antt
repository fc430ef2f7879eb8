use Rattle.std.proofs.Common.{◌≡◌, take}
use Rattle.sh_syntax.proofs.copy.copy_items.Given as goal

abbrev pub invariant-loop-i : goal.invariant-loop-i
invariant-loop-i g l = l.copies ≡ take l.i l.items
