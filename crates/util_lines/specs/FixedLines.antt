-- Lines in which fixed strings occur (POSIX.1-2017, XCU, `grep`, `-F`).
use Rattle.std.specs.Prelude.{ℕ, ◌+◌, Bool, true, false, not, ◌&&◌, ◌||◌, ◌==◌, List, [], ◌∷◌, ◌++◌, length, map, decimal, if◌then◌else◌}
use Rattle.std.specs.Char.{to_ascii_lowercase}
use Rattle.std.specs.List.{filter, list_any}
use Rattle.std.specs.Str.{bytes_eq}
use Rattle.util_lines.specs.Splitting.{ended, lines}
use Rattle.util_lines.specs.declared.fixed_lines.Flags.{Flags}

-- The patterns are the lines of an operand; an empty one is one empty line. A newline at the end adds none.
abbrev pub patterns_of : List ℕ → List (List ℕ)
patterns_of [] = [] ∷ []
patterns_of (b ∷ bs) = lines (b ∷ bs)

-- ---- which lines are selected

-- the pattern comes first
abbrev pub begins : List ℕ → List ℕ → Bool
begins [] line = true
begins (b ∷ bs) [] = false
begins (b ∷ bs) (c ∷ cs) = b == c && begins bs cs

-- the pattern comes somewhere
abbrev pub occurs : List ℕ → List ℕ → Bool
occurs pattern [] = begins pattern []
occurs pattern (c ∷ cs) = begins pattern (c ∷ cs) || occurs pattern cs

-- a text with small letters for capital ones
abbrev pub small : List ℕ → List ℕ
small text = map to_ascii_lowercase text

-- with `-i` the case of letters does not count
abbrev pub folded : Bool → List ℕ → List ℕ
folded folds text = if folds then small text else text

-- with `-x` the pattern is the line
abbrev pub fits : Bool → List ℕ → List ℕ → Bool
fits whole line pattern = if whole then bytes_eq line pattern else occurs pattern line

abbrev pub one_fits : Bool → List ℕ → List ℕ → Bool
one_fits whole patterns line = list_any (λ pattern. fits whole line pattern) (patterns_of patterns)

-- with `-v` the other lines
abbrev pub selected_if : Bool → Bool → Bool
selected_if inverts found = if inverts then not found else found

-- A line is selected where one of the patterns fits it. The patterns are folded already.
abbrev pub selects : Flags → List ℕ → List ℕ → Bool
selects flags patterns line = selected_if flags.inverts (one_fits flags.whole patterns (folded flags.folds line))

abbrev pub has_selected : Flags → List ℕ → List ℕ → Bool
has_selected flags patterns content = list_any (λ line. selects flags patterns line) (lines content)

-- ---- what is written of a content

abbrev pub number_part : Bool → ℕ → List ℕ
number_part numbers n = if numbers then decimal n ++ 58 ∷ [] else []

-- `NUMBER:LINE` and a newline, behind what stands before each line
abbrev pub line_written : Flags → List ℕ → ℕ → List ℕ → List ℕ
line_written flags prefix n line = prefix ++ (number_part flags.numbers n ++ ended line)

abbrev pub line_where : Bool → List ℕ → List ℕ
line_where selected text = if selected then text else []

-- the selected lines, where the first line has this number
abbrev pub lines_from : Flags → List ℕ → List ℕ → ℕ → List (List ℕ) → List ℕ
lines_from flags patterns prefix n [] = []
lines_from flags patterns prefix n (line ∷ more) = line_where (selects flags patterns line) (line_written flags prefix n line) ++ lines_from flags patterns prefix (n + 1) more

-- the count and a newline
abbrev pub count_written : List ℕ → ℕ → List ℕ
count_written prefix n = prefix ++ ended (decimal n)

abbrev pub count_of : Flags → List ℕ → List ℕ → ℕ
count_of flags patterns content = length (filter (λ line. selects flags patterns line) (lines content))

-- with `-q` nothing, and with `-c` the count
abbrev pub report : Flags → List ℕ → List ℕ → List ℕ → List ℕ
report flags patterns prefix content =
    if flags.quiet then []
    else (if flags.counts then count_written prefix (count_of flags patterns content) else lines_from flags patterns prefix 1 (lines content))
