-- The byte at hand.
use Rattle.std.proofs.Common.{◌≡◌, ℕ, ◌+◌, ◌<◌, List, ◌∷◌, length, drop, get_or, sym, ◌∙◌, ap}
use Rattle.std.proofs.lemmas.List.{drop_more}

-- the bytes that are left are the one at hand and those behind it
pub at_hand : (bytes : List ℕ) (i byte : ℕ) → i < length bytes → byte ≡ get_or bytes i 0 → drop i bytes ≡ byte ∷ drop (i + 1) bytes
at_hand bytes i byte h is = drop_more bytes i 0 h ∙ ap (λ (b : ℕ). b ∷ drop (i + 1) bytes) (sym is)
