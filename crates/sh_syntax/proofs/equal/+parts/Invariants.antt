use Rattle.std.proofs.Common.{◌≡◌, ◌<◌, ℕ, length, get_or}
use Rattle.sh_syntax.specs.declared.tree.Part.{Part}
use Rattle.sh_syntax.proofs.equal.+parts.Given as goal

abbrev pub invariant-same_parts-loop-i : goal.invariant-same_parts-loop-i
invariant-same_parts-loop-i l = (length l.a ≡ length l.b) × ((k : ℕ) (d : Part) → k < l.i → get_or l.a k d ≡ get_or l.b k d)
