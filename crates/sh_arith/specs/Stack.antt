-- A list by its first element.
use Rattle.std.specs.Prelude.{◌≡◌, List, ◌∷◌}

-- x is the first element
abbrev pub first_of : {A : Type 0} → List A → A → Type 0
first_of {A} xs x = (rest : List A) × (xs ≡ x ∷ rest)
