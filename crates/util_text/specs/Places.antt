-- Lists of places (POSIX.1-2017, XCU, `cut`): ranges of places, which are counted from 1.
use Rattle.std.specs.Prelude.{ℕ, Bool, true, ◌&&◌, ◌||◌, ◌==◌, nat_le, List, [], ◌∷◌, Option, None, Some, if◌then◌else◌}
use Rattle.std.specs.List.{list_any}
use Rattle.util_text.specs.Count.{number}
use Rattle.util_text.specs.Parts.{parts}
use Rattle.util_text.specs.Sequences.{all_of}

-- Where a range begins, and where it ends, if it does.
pub record Range : Type 0 where
  pub low : ℕ
  pub high : Option ℕ

-- a comma or a blank stands between items
abbrev pub is_separator : ℕ → Bool
is_separator b = b == 44 || b == 32 || b == 9

-- the bytes before the first `-`
abbrev pub before_dash : List ℕ → List ℕ
before_dash [] = []
before_dash (b ∷ bs) = if b == 45 then [] else b ∷ before_dash bs

-- those behind it, where it is there
abbrev pub behind_dash : List ℕ → Option (List ℕ)
behind_dash [] = None
behind_dash (b ∷ bs) = if b == 45 then Some bs else behind_dash bs

-- a range that begins at a place, and does not fall
abbrev pub bounded : Option ℕ → Option ℕ → Option Range
bounded None high = None
bounded (Some low) None = None
bounded (Some low) (Some high) = if nat_le 1 low && nat_le low high then Some (record { low = low; high = Some high }) else None

abbrev pub unbounded : Option ℕ → Option Range
unbounded None = None
unbounded (Some low) = if nat_le 1 low then Some (record { low = low; high = None }) else None

-- the range that is written by these bytes, and those behind a `-`: `N`, `N-M`, `N-` or `-M`
abbrev pub range_with : List ℕ → Option (List ℕ) → Option Range
range_with low None = bounded (number low) (number low)
range_with [] (Some high) = bounded (Some 1) (number high)
range_with (b ∷ bs) (Some []) = unbounded (number (b ∷ bs))
range_with (b ∷ bs) (Some (c ∷ cs)) = bounded (number (b ∷ bs)) (number (c ∷ cs))

abbrev pub range_of : List ℕ → Option Range
range_of item = range_with (before_dash item) (behind_dash item)

-- the ranges of a list; none where an item writes none
abbrev pub list_of : List ℕ → Option (List Range)
list_of word = all_of (λ item. range_of item) (parts (λ b. is_separator b) word)

abbrev pub up_to : Option ℕ → ℕ → Bool
up_to None place = true
up_to (Some high) place = nat_le place high

abbrev pub in_range : Range → ℕ → Bool
in_range r place = nat_le r.low place && up_to r.high place

-- whether a range has the place
abbrev pub selects : List Range → ℕ → Bool
selects ranges place = list_any (λ r. in_range r place) ranges
