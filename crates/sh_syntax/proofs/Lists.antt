use Rattle.std.proofs.Common.{◌≡◌, ◌<◌, ◌≤◌, ℕ, List, length, get_or, arith}
use Rattle.std.proofs.lemmas.List.{same_lists}

abbrev pub all_same : {X : Type 0} (xs ys : List X) (i : ℕ) → length xs ≡ length ys → length xs ≤ i → ((k : ℕ) (d : X) → k < i → get_or xs k d ≡ get_or ys k d) → xs ≡ ys
all_same xs ys i long end h = same_lists xs ys long (λ k d lt. h k d (omega arith))
