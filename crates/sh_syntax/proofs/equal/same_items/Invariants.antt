use Rattle.std.proofs.Common.{◌≡◌, ◌<◌, ℕ, length, get_or}
use Rattle.sh_syntax.proofs.equal.same_items.Given as goal

abbrev pub invariant-loop-i : goal.invariant-loop-i
invariant-loop-i g l = (length l.a ≡ length l.b) × ((k : ℕ) (d : _) → k < l.i → get_or l.a k d ≡ get_or l.b k d)
