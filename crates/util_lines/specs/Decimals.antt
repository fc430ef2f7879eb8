-- Decimal numbers at the start of lines (POSIX.1-2017, XCU, `sort`, `-n`): blanks, an optional `-`, digits, an optional `.` and digits
-- behind it. No digit counts as 0.
use Rattle.std.specs.Prelude.{ℕ, ◌+◌, ◌*◌, ◌-◌, Bool, true, false, not, ◌&&◌, ◌||◌, ◌==◌, List, [], ◌∷◌, if◌then◌else◌}
use Rattle.std.specs.Char.{is_ascii_digit}
use Rattle.std.specs.Cmp.Lexicographic.{slice_cmp}
use Rattle.std.specs.Ordering.{nat_cmp, ordering_then}
use Rattle.std.specs.declared.cmp.Ordering.{Ordering}
use Rattle.std.specs.declared.cmp.Ordering.TheVariants.{Less, Greater}

-- Whether it is below 0, what stands before the point, and the digits behind it without zeros at their end.
pub record Decimal : Type 0 where
  pub below : Bool
  pub whole : ℕ
  pub fraction : List ℕ

abbrev pub decimal : Bool → ℕ → List ℕ → Decimal
decimal below whole fraction = record { below = below; whole = whole; fraction = fraction }

-- ---- from bytes

abbrev pub is_blank : ℕ → Bool
is_blank b = b == 32 || b == 9

abbrev pub behind_blanks : List ℕ → List ℕ
behind_blanks [] = []
behind_blanks (b ∷ bs) = if is_blank b then behind_blanks bs else b ∷ bs

abbrev pub has_sign : List ℕ → Bool
has_sign [] = false
has_sign (b ∷ bs) = b == 45

abbrev pub behind_sign : List ℕ → List ℕ
behind_sign [] = []
behind_sign (b ∷ bs) = if b == 45 then bs else b ∷ bs

-- the digits that come first, and what stands behind them
abbrev pub digits : List ℕ → List ℕ
digits [] = []
digits (b ∷ bs) = if is_ascii_digit b then b ∷ digits bs else []

abbrev pub behind_digits : List ℕ → List ℕ
behind_digits [] = []
behind_digits (b ∷ bs) = if is_ascii_digit b then behind_digits bs else b ∷ bs

-- the digits behind a point, where it comes first
abbrev pub digits_behind_point : List ℕ → List ℕ
digits_behind_point [] = []
digits_behind_point (b ∷ bs) = if b == 46 then digits bs else []

-- ---- from digits

-- the number that digits write, behind digits that write this number
abbrev pub number_from : ℕ → List ℕ → ℕ
number_from n [] = n
number_from n (b ∷ bs) = number_from (n * 10 + (b - 48)) bs

abbrev pub number : List ℕ → ℕ
number ds = number_from 0 ds

-- a digit before these, or nothing where it is a zero at the end
abbrev pub kept_before : ℕ → List ℕ → List ℕ
kept_before b [] = if b == 48 then [] else b ∷ []
kept_before b (d ∷ ds) = b ∷ d ∷ ds

-- the digits without zeros at their end
abbrev pub without_zeros : List ℕ → List ℕ
without_zeros [] = []
without_zeros (b ∷ bs) = kept_before b (without_zeros bs)

abbrev pub is_zero : ℕ → List ℕ → Bool
is_zero whole [] = whole == 0
is_zero whole (d ∷ ds) = false

abbrev pub signed : Bool → ℕ → List ℕ → Decimal
signed minus whole fraction = decimal (minus && not (is_zero whole fraction)) whole fraction

abbrev pub unsigned_of : Bool → List ℕ → Decimal
unsigned_of minus text = signed minus (number (digits text)) (without_zeros (digits_behind_point (behind_digits text)))

abbrev pub decimal_of : List ℕ → Decimal
decimal_of line = unsigned_of (has_sign (behind_blanks line)) (behind_sign (behind_blanks line))

-- ---- their order

-- The part before the point decides, and then the digits behind it, one by one.
abbrev pub size_order : Decimal → Decimal → Ordering
size_order a b = ordering_then (nat_cmp a.whole b.whole) (slice_cmp nat_cmp a.fraction b.fraction)

abbrev pub by_signs : Bool → Bool → Decimal → Decimal → Ordering
by_signs false false a b = size_order a b
by_signs false true a b = Greater
by_signs true false a b = Less
by_signs true true a b = size_order b a

abbrev pub decimal_order : Decimal → Decimal → Ordering
decimal_order a b = by_signs a.below b.below a b
