-- Lines of two texts, merged (POSIX.1-2017, XCU, `comm`): the smaller one of the two front lines is taken, and equal ones together.
use Rattle.std.specs.Prelude.{ℕ, Bool, true, false, List, [], ◌∷◌, ◌++◌, map}
use Rattle.std.specs.Cmp.Lexicographic.{slice_cmp}
use Rattle.std.specs.List.{flat_map}
use Rattle.std.specs.Ordering.{nat_cmp}
use Rattle.std.specs.declared.cmp.Ordering.{Ordering}
use Rattle.std.specs.declared.cmp.Ordering.TheVariants.{Less, Equal, Greater}
use Rattle.util_lines.specs.Splitting.{ended, lines}
use Rattle.util_lines.specs.declared.merging.Column.{Column}
use Rattle.util_lines.specs.declared.merging.Column.TheVariants.{First, Second, Both}
use Rattle.util_lines.specs.declared.merging.Columns.{Columns}

-- A line, and its column: that of the first text, of the second, or of both.
pub record Entry : Type 0 where
  pub column : Column
  pub line : List ℕ

abbrev pub entry : Column → List ℕ → Entry
entry column line = record { column = column; line = line }

abbrev pub byte_order : List ℕ → List ℕ → Ordering
byte_order x y = slice_cmp nat_cmp x y

-- A line of the first text is in front. `rest` merges what stands behind it with lines of the second.
abbrev pub with_front : List ℕ → (List (List ℕ) → List Entry) → List (List ℕ) → List Entry
with_front x rest [] = entry First x ∷ rest []
with_front x rest (y ∷ ys) = elim (byte_order x y) [
  | Less ↦ entry First x ∷ rest (y ∷ ys)
  | Equal ↦ entry Both x ∷ rest ys
  | Greater ↦ entry Second y ∷ with_front x rest ys
]

abbrev pub merged : List (List ℕ) → List (List ℕ) → List Entry
merged [] ys = map (λ y. entry Second y) ys
merged (x ∷ xs) ys = with_front x (λ rest. merged xs rest) ys

-- a tab for a column before this one, where that is written
abbrev pub tab : Bool → List ℕ
tab true = 9 ∷ []
tab false = []

abbrev pub where_written : Bool → List ℕ → List ℕ
where_written true text = text
where_written false text = []

-- A column is written or not.
abbrev pub shown : Columns → Column → List ℕ → List ℕ
shown columns First line = where_written columns.first (ended line)
shown columns Second line = where_written columns.second (tab columns.first ++ ended line)
shown columns Both line = where_written columns.both (tab columns.first ++ (tab columns.second ++ ended line))

abbrev pub comm : Columns → List ℕ → List ℕ → List ℕ
comm columns one two = flat_map (λ e. shown columns e.column e.line) (merged (lines one) (lines two))
