-- Lines of a text (POSIX.1-2017, XBD 3.206): each ends at a newline. A last piece without one is a line too.
use Rattle.std.specs.Prelude.{ℕ, ◌-◌, List, [], ◌∷◌, ◌++◌, length, take, drop, ◌==◌, if◌then◌else◌}
use Rattle.std.specs.List.{concat}

-- the lines when this byte comes before the first of them, on its line
abbrev pub onto : ℕ → List (List ℕ) → List (List ℕ)
onto b [] = (b ∷ []) ∷ []
onto b (line ∷ more) = (b ∷ line) ∷ more

-- the lines with their newlines
abbrev pub pieces : List ℕ → List (List ℕ)
pieces [] = []
pieces (b ∷ bs) = if b == 10 then (b ∷ []) ∷ pieces bs else onto b (pieces bs)

-- the lines without their newlines
abbrev pub lines : List ℕ → List (List ℕ)
lines [] = []
lines (b ∷ bs) = if b == 10 then [] ∷ lines bs else onto b (lines bs)

-- ---- head and tail, which copy bytes

-- the first lines, so many
abbrev pub first_lines : ℕ → List ℕ → List ℕ
first_lines n text = concat (take n (pieces text))

-- the last lines, so many
abbrev pub last_lines : ℕ → List ℕ → List ℕ
last_lines n text = concat (drop (length (pieces text) - n) (pieces text))

-- the lines from line n on, counted from 1; 0 is as 1
abbrev pub lines_from : ℕ → List ℕ → List ℕ
lines_from n text = concat (drop (n - 1) (pieces text))
