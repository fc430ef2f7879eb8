use Rattle.std.proofs.Common.{◌≡◌, take}
use Rattle.sh_syntax.proofs.copy.+copies.Given as goal

abbrev pub invariant-copy_parts-loop-i : goal.invariant-copy_parts-loop-i
invariant-copy_parts-loop-i l = l.copies ≡ take l.i l.parts
