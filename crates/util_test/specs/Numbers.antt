-- Numbers that `test` compares (POSIX.1-2017, XCU, `test`): decimal ones of 64 bits with their sign.
use Rattle.std.specs.Prelude.{ℕ, ◌^◌, Bool, false, ◌&&◌, ◌==◌, nat_lt, nat_le, ℤ, pos, neg_ℤ, List, [], ◌∷◌, Option, None, Some, if◌then◌else◌}
use Rattle.std.specs.Ordering.{int_cmp}
use Rattle.std.specs.Str.{all_ascii_digits}
use Rattle.std.specs.Str.Parse.{digits_value}
use Rattle.std.specs.declared.cmp.Ordering.{Ordering}

-- decimal digits, at least one
abbrev pub is_digits : List ℕ → Bool
is_digits [] = false
is_digits (b ∷ bs) = all_ascii_digits (b ∷ bs)

abbrev pub positive : List ℕ → Option ℤ
positive digits = if is_digits digits && nat_lt (digits_value 10 digits) (2 ^ 63) then Some (pos (digits_value 10 digits)) else None

abbrev pub negative : List ℕ → Option ℤ
negative digits = if is_digits digits && nat_le (digits_value 10 digits) (2 ^ 63) then Some (neg_ℤ (pos (digits_value 10 digits))) else None

-- the number that a word writes, with a sign or without
abbrev pub number : List ℕ → Option ℤ
number [] = None
number (b ∷ bs) = if b == 45 then negative bs else (if b == 43 then positive bs else positive (b ∷ bs))

abbrev pub order_of : Option ℤ → Option ℤ → Option Ordering
order_of None b = None
order_of (Some a) None = None
order_of (Some a) (Some b) = Some (int_cmp a b)

abbrev pub order : List ℕ → List ℕ → Option Ordering
order a b = order_of (number a) (number b)
