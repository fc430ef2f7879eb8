-- What stands at the front of a text, from its bytes by index.
use Rattle.std.proofs.Common.{◌≡◌, ℕ, ◌≤◌, ◌-◌, List, [], ◌∷◌, length, take, drop, get_or, arith}
use Rattle.std.proofs.lemmas.List.{take_all}

pub two_at : (t : List ℕ) (b c : ℕ) → 2 ≤ length t → get_or t 0 0 ≡ b → get_or t 1 0 ≡ c → t ≡ b ∷ c ∷ take (length t - 2) (drop 2 t)
two_at [] b c long p q = absurd (omega arith)
two_at (x ∷ []) b c long p q = absurd (omega arith)
two_at (x ∷ y ∷ r) b c long p q = let e : take (length (x ∷ y ∷ r) - 2) r ≡ r = take_all _ r (omega arith) in cc
