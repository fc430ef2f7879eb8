-- What `paste` makes of lines (POSIX.1-2017, XCU, `paste`). A delimiter is a byte, or nothing.
use Rattle.std.specs.Prelude.{ℕ, zero, suc, ◌+◌, ◌%◌, ◌==◌, Bool, true, false, List, [], ◌∷◌, ◌++◌, length, map, drop, slice_index_or, Option, None, Some, option_to_list, if◌then◌else◌}
use Rattle.std.specs.List.{list_all}
use Rattle.util_text.specs.Lines.{lines}
use Rattle.util_text.specs.Sequences.{with_first}
use Rattle.util_text.specs.declared.column.Column.{Column}
use Rattle.util_text.specs.declared.column.Column.TheVariants.{File, Input}

-- ---- the delimiters of a list

-- what a byte stands for behind a backslash
abbrev pub escaped : ℕ → Option (Option ℕ)
escaped b =
    if b == 110 then Some (Some 10)
    else (if b == 116 then Some (Some 9)
    else (if b == 92 then Some (Some 92)
    else (if b == 48 then Some None
    else None)))

abbrev pub delimiters_from : List ℕ → Option (List (Option ℕ))
delimiters_from [] = Some []
delimiters_from (b ∷ []) = if b == 92 then None else Some (Some b ∷ [])
delimiters_from (b ∷ c ∷ more) = if b == 92 then with_first (escaped c) (delimiters_from more) else with_first (Some (Some b)) (delimiters_from (c ∷ more))

-- an empty list is bad
abbrev pub delimiters_of : List ℕ → Option (List (Option ℕ))
delimiters_of [] = None
delimiters_of (b ∷ more) = delimiters_from (b ∷ more)

-- ---- joined lines

-- what stands before line n of those that are joined: nothing before the first one, and then the delimiters in turn
abbrev pub before : List (Option ℕ) → ℕ → List ℕ
before ds zero = []
before ds (suc n) = option_to_list (slice_index_or ds (n % length ds) None)

-- the lines joined, of which the first is line n
abbrev pub joined : List (Option ℕ) → ℕ → List (List ℕ) → List ℕ
joined ds n [] = []
joined ds n (line ∷ more) = before ds n ++ (line ++ joined ds (suc n) more)

-- one line of these lines
abbrev pub one_line : List (Option ℕ) → List (List ℕ) → List ℕ
one_line ds parts = joined ds 0 parts ++ 10 ∷ []

-- `-s`: one line of all lines of a text
abbrev pub serial : List (Option ℕ) → List ℕ → List ℕ
serial ds text = one_line ds (lines text)

-- ---- columns

-- the next line; nothing where the lines have ended
abbrev pub next : List (List ℕ) → List ℕ
next [] = []
next (line ∷ more) = line

-- What a column gives to a row. All columns that are standard input take its lines in turn.
abbrev pub cell : Column → List (List ℕ) → List ℕ
cell Input input = next input
cell (File own) input = next own

abbrev pub column_left : Column → Column
column_left Input = Input
column_left (File own) = File (drop 1 own)

abbrev pub input_left : Column → List (List ℕ) → List (List ℕ)
input_left Input input = drop 1 input
input_left (File own) input = input

abbrev pub cells : List Column → List (List ℕ) → List (List ℕ)
cells [] input = []
cells (column ∷ columns) input = cell column input ∷ cells columns (input_left column input)

-- what a row leaves of standard input
abbrev pub row_left : List Column → List (List ℕ) → List (List ℕ)
row_left [] input = input
row_left (column ∷ columns) input = row_left columns (input_left column input)

abbrev pub has_none : List (List ℕ) → Bool
has_none [] = true
has_none (line ∷ more) = false

abbrev pub has_ended : List (List ℕ) → Column → Bool
has_ended input Input = has_none input
has_ended input (File own) = has_none own

abbrev pub have_ended : List Column → List (List ℕ) → Bool
have_ended columns input = list_all (has_ended input) columns

-- rows until all columns have ended, so many at most
abbrev pub rows : List (Option ℕ) → ℕ → List Column → List (List ℕ) → List ℕ
rows ds zero columns input = []
rows ds (suc n) columns input = if have_ended columns input then [] else one_line ds (cells columns input) ++ rows ds n (map column_left columns) (row_left columns input)

abbrev pub own_count : List Column → ℕ
own_count [] = 0
own_count (Input ∷ columns) = own_count columns
own_count (File own ∷ columns) = length own + own_count columns

-- Each row takes a line at least.
abbrev pub paste : List (Option ℕ) → List Column → List (List ℕ) → List ℕ
paste ds columns input = rows ds (own_count columns + length input) columns input
