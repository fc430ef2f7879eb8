-- What is written piece by piece.
use Rattle.std.proofs.Common.{◌≡◌, List, [], ◌∷◌, ◌++◌, ℕ, sym, ◌∙◌, ap, append_assoc, append-nil}
use Rattle.std.specs.List.{flat_map}

-- one piece more
pub piece_step : {X : Type 0} (f : X → List ℕ) (out new whole : List ℕ) (x : X) (xs all : List X) → all ≡ x ∷ xs → out ++ flat_map f all ≡ whole → new ≡ out ++ f x → new ++ flat_map f xs ≡ whole
piece_step {X} f out new whole x xs all is sofar written =
    ap (λ (u : List ℕ). u ++ flat_map f xs) written
    ∙ append_assoc out (f x) (flat_map f xs)
    ∙ ap (λ (u : List X). out ++ flat_map f u) (sym is)
    ∙ sofar

-- no piece left
pub pieces_done : {X : Type 0} (f : X → List ℕ) (out whole : List ℕ) (all : List X) → all ≡ [] → out ++ flat_map f all ≡ whole → out ≡ whole
pieces_done {X} f out whole all is sofar = sym (append-nil out) ∙ ap (λ (u : List X). out ++ flat_map f u) (sym is) ∙ sofar
