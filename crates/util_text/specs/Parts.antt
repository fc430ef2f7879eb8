-- Bytes in parts.
use Rattle.std.specs.Prelude.{ℕ, Bool, List, [], ◌∷◌, Option, None, Some, if◌then◌else◌}
use Rattle.util_text.specs.Lines.{onto}

-- what stands between the bytes that pass the test, also where that is nothing
abbrev pub parts : (ℕ → Bool) → List ℕ → List (List ℕ)
parts test [] = [] ∷ []
parts test (b ∷ bs) = if test b then [] ∷ parts test bs else onto b (parts test bs)

-- the parts of what stands behind a byte that passes, where there is one
abbrev pub parts_behind : (ℕ → Bool) → Option (List ℕ) → List (List ℕ)
parts_behind test None = []
parts_behind test (Some bytes) = parts test bytes
