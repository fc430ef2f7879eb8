-- Lines in order (POSIX.1-2017, XCU, `sort`).
use Rattle.std.specs.Prelude.{ℕ, Bool, List, [], ◌∷◌, ◌++◌, reverse, if◌then◌else◌}
use Rattle.std.specs.Cmp.Lexicographic.{slice_cmp}
use Rattle.std.specs.List.{dedup}
use Rattle.std.specs.Ordering.{is_eq, is_gt, nat_cmp, ordering_then}
use Rattle.std.specs.declared.cmp.Ordering.{Ordering}
use Rattle.util_lines.specs.Decimals.{decimal_of, decimal_order}
use Rattle.util_lines.specs.Splitting.{joined, lines}
use Rattle.util_lines.specs.declared.ordering.By.{By}
use Rattle.util_lines.specs.declared.ordering.By.TheVariants.{Bytes, Number, NumberThenBytes}
use Rattle.util_lines.specs.declared.ordering.Sorting.{Sorting}

abbrev pub byte_order : List ℕ → List ℕ → Ordering
byte_order x y = slice_cmp nat_cmp x y

abbrev pub number_order : List ℕ → List ℕ → Ordering
number_order x y = decimal_order (decimal_of x) (decimal_of y)

-- by all bytes, by the number at the start, or by that and then by all bytes
abbrev pub order : By → List ℕ → List ℕ → Ordering
order Bytes x y = byte_order x y
order Number x y = number_order x y
order NumberThenBytes x y = ordering_then (number_order x y) (byte_order x y)

-- before the first one that is not smaller
abbrev pub inserted : {X : Type 0} → (X → X → Ordering) → X → List X → List X
inserted order x [] = x ∷ []
inserted order x (y ∷ ys) = if is_gt (order x y) then y ∷ inserted order x ys else x ∷ y ∷ ys

-- ascending; what is equal stays in its order
abbrev pub sorted : {X : Type 0} → (X → X → Ordering) → List X → List X
sorted order [] = []
sorted order (x ∷ xs) = inserted order x (sorted order xs)

-- Equal numbers go by the whole line, but not where the first of equal lines is kept alone.
abbrev pub compared_by : Sorting → By
compared_by sorting = if sorting.numeric then (if sorting.unique then Number else NumberThenBytes) else Bytes

-- of equal neighbours the first one, where that is wanted
abbrev pub kept_where : Bool → By → List (List ℕ) → List (List ℕ)
kept_where unique by lines = if unique then dedup (λ x y. is_eq (order by x y)) lines else lines

abbrev pub turned_where : Bool → List (List ℕ) → List (List ℕ)
turned_where reversed lines = if reversed then reverse lines else lines

-- all lines of these texts
abbrev pub all_lines : List (List ℕ) → List (List ℕ)
all_lines [] = []
all_lines (text ∷ texts) = lines text ++ all_lines texts

abbrev pub arranged : Sorting → List (List ℕ) → List (List ℕ)
arranged sorting lines = turned_where sorting.reverse (kept_where sorting.unique (compared_by sorting) (sorted (order (compared_by sorting)) lines))

abbrev pub sort : Sorting → List (List ℕ) → List ℕ
sort sorting texts = joined (arranged sorting (all_lines texts))
