-- Runs of equal lines that stand side by side (POSIX.1-2017, XCU, `uniq`).
use Rattle.std.specs.Prelude.{ℕ, ◌+◌, Bool, ◌==◌, nat_eq, nat_lt, List, [], ◌∷◌, ◌++◌, decimal, if◌then◌else◌}
use Rattle.std.specs.Cmp.Lexicographic.{pointwise}
use Rattle.std.specs.List.{flat_map}
use Rattle.util_lines.specs.Splitting.{ended, lines}
use Rattle.util_lines.specs.declared.runs.Mode.{Mode}
use Rattle.util_lines.specs.declared.runs.Mode.TheVariants.{All, Counted, Repeated, Single}

-- How many lines, and what each of them is.
pub record Run : Type 0 where
  pub count : ℕ
  pub line : List ℕ

abbrev pub run_of : ℕ → List ℕ → Run
run_of count line = record { count = count; line = line }

abbrev pub is_same : List ℕ → List ℕ → Bool
is_same a b = pointwise nat_eq a b

-- the runs when this line comes before them
abbrev pub behind : List ℕ → List Run → List Run
behind line [] = run_of 1 line ∷ []
behind line (run ∷ more) = if is_same line run.line then run_of (run.count + 1) line ∷ more else run_of 1 line ∷ run ∷ more

abbrev pub runs : List (List ℕ) → List Run
runs [] = []
runs (line ∷ more) = behind line (runs more)

-- what is written for a run: its line, or its count, a space and its line; or nothing, where only repeated lines, or only single
-- ones, are written
abbrev pub shown : Mode → Run → List ℕ
shown All run = ended run.line
shown Counted run = decimal run.count ++ 32 ∷ ended run.line
shown Repeated run = if nat_lt 1 run.count then ended run.line else []
shown Single run = if run.count == 1 then ended run.line else []

abbrev pub uniq : Mode → List ℕ → List ℕ
uniq mode text = flat_map (λ run. shown mode run) (runs (lines text))
