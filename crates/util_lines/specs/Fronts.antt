-- Texts that are read line by line: the first line that is left, and what stands behind it.
use Rattle.std.specs.Prelude.{ℕ, ◌+◌, List, [], ◌∷◌, length, map, Option, Some, None}
use Rattle.util_lines.specs.Splitting.{lines}
use denote.Ref.{Bor}

abbrev pub lines_left : Option (Bor (List ℕ) × Bor (List ℕ)) → List (List ℕ)
lines_left None = []
lines_left (Some front) = front.0.now ∷ lines front.1.now

-- more than what stands behind the first line
abbrev pub size_left : Option (Bor (List ℕ) × Bor (List ℕ)) → ℕ
size_left None = 0
size_left (Some front) = length front.1.now + 1

-- lines that stand in a list
abbrev pub shown_lines : List (Bor (List ℕ)) → List (List ℕ)
shown_lines lines = map (λ line. line.now) lines
