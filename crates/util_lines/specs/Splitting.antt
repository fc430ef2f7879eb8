-- Lines of a text (POSIX.1-2017, XBD 3.206): each ends at a newline, which is left out here. A last piece without one is a line too.
use Rattle.std.specs.Prelude.{ℕ, List, [], ◌∷◌, ◌++◌, ◌==◌, if◌then◌else◌}
use Rattle.std.specs.List.{flat_map}

-- the lines when this byte comes before the first of them, on its line
abbrev pub onto : ℕ → List (List ℕ) → List (List ℕ)
onto b [] = (b ∷ []) ∷ []
onto b (line ∷ more) = (b ∷ line) ∷ more

abbrev pub lines : List ℕ → List (List ℕ)
lines [] = []
lines (b ∷ bs) = if b == 10 then [] ∷ lines bs else onto b (lines bs)

-- a line as it is written
abbrev pub ended : List ℕ → List ℕ
ended line = line ++ 10 ∷ []

abbrev pub joined : List (List ℕ) → List ℕ
joined lines = flat_map (λ line. ended line) lines
