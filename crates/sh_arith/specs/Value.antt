-- What an expression gives (POSIX.1-2017, XCU 2.6.4; ISO C, 6.5): numbers are of 64 bits with a sign and wrap.
use Rattle.std.specs.Prelude.{ℕ, zero, suc, Bool, true, false, nat_lt, ℤ, pos, negsuc, neg_ℤ, ◌+ℤ◌, ◌-ℤ◌, ◌*ℤ◌, List, [], ◌∷◌, ◌++◌, Option, Some, None, if◌then◌else◌, not}
use Rattle.std.specs.Int.{w64, int_wrap, int_wrapping_div, int_shl, int_shr, int_bit_and, int_bit_or, int_bit_xor, int_bit_not}
use Rattle.std.specs.Ordering.{int_eq}
use Rattle.std.specs.Int.RustNames.{int_lt, int_le, int_rem}
use Rattle.sh_arith.specs.declared.token.Math.{Math}
use Rattle.sh_arith.specs.declared.token.Math.TheVariants as math
use Rattle.sh_arith.specs.declared.token.Logic.{Logic}
use Rattle.sh_arith.specs.declared.token.Logic.TheVariants.{Both, Either}
use Rattle.sh_arith.specs.declared.token.Sign.{Sign}
use Rattle.sh_arith.specs.declared.token.Sign.TheVariants as sign
use Rattle.sh_arith.specs.Number.{value_of}
use Rattle.sh_arith.specs.Grammar.{Tree, number, read, signed, binary, logic, choice, assign}
use Rattle.sh_arith.specs.Names.{Table, Assignment, to, assigned}

-- ---- operators

-- what is left of a number in 64 bits
abbrev pub wrap : ℤ → ℤ
wrap = int_wrap w64

abbrev pub is_zero : ℤ → Bool
is_zero (pos zero) = true
is_zero (pos (suc n)) = false
is_zero (negsuc n) = false

abbrev pub truth : Bool → ℤ
truth true = pos 1
truth false = pos 0

-- why an operator gives no number
pub data Fault : Type 0 where
  by_zero : Fault
  bad_shift : Fault

pub data Calculated : Type 0 where
  gives : ℤ → Calculated
  fails : Fault → Calculated

abbrev pub sum : ℤ → ℤ → ℤ
sum a b = wrap (a +ℤ b)

abbrev pub difference : ℤ → ℤ → ℤ
difference a b = wrap (a -ℤ b)

abbrev pub product : ℤ → ℤ → ℤ
product a b = wrap (a *ℤ b)

abbrev pub negated : ℤ → ℤ
negated a = wrap (neg_ℤ a)

-- The quotient is rounded towards zero. That of -2 ^ 63 by -1 wraps.
abbrev pub quotient : ℤ → ℤ → Calculated
quotient a b = if is_zero b then fails by_zero else gives (int_wrapping_div w64 a b)

-- The remainder has the sign of the left operand.
abbrev pub remainder : ℤ → ℤ → Calculated
remainder a b = if is_zero b then fails by_zero else gives (int_rem a b)

-- by how many bits a number shifts, if it may
abbrev pub bits : ℤ → Option ℕ
bits (pos n) = if nat_lt n 64 then Some n else None
bits (negsuc n) = None

abbrev pub shifted : Option ℕ → (ℕ → ℤ) → Calculated
shifted None f = fails bad_shift
shifted (Some n) f = gives (f n)

-- The number times 2 ^ n, of which 64 bits are left.
abbrev pub left : ℤ → ℤ → Calculated
left a b = shifted (bits b) (λ n. int_shl w64 a n)

-- The sign stays: a half is rounded down.
abbrev pub right : ℤ → ℤ → Calculated
right a b = shifted (bits b) (λ n. int_shr a n)

abbrev pub calculate : Math → ℤ → ℤ → Calculated
calculate math.Times a b = gives (product a b)
calculate math.Over a b = quotient a b
calculate math.Modulo a b = remainder a b
calculate math.Plus a b = gives (sum a b)
calculate math.Minus a b = gives (difference a b)
calculate math.Left a b = left a b
calculate math.Right a b = right a b
calculate math.Less a b = gives (truth (int_lt a b))
calculate math.AtMost a b = gives (truth (int_le a b))
calculate math.Greater a b = gives (truth (int_lt b a))
calculate math.AtLeast a b = gives (truth (int_le b a))
calculate math.Equal a b = gives (truth (int_eq a b))
calculate math.Unequal a b = gives (truth (not (int_eq a b)))
calculate math.And a b = gives (int_bit_and w64 a b)
calculate math.Xor a b = gives (int_bit_xor w64 a b)
calculate math.Or a b = gives (int_bit_or w64 a b)

abbrev pub with_sign : Sign → ℤ → ℤ
with_sign sign.Plus a = a
with_sign sign.Minus a = negated a
with_sign sign.Not a = truth (is_zero a)
with_sign sign.Complement a = int_bit_not w64 a

-- ---- expressions

-- why an expression gives no number
pub data Cause : Type 0 where
  fault : Fault → Cause
  -- the value of the name at this place is no number
  no_number : ℕ → Cause
  -- the name at this place is read only, and this number would be assigned to it
  is_read_only : ℕ → List ℕ → ℤ → Cause

-- The number, or why there is none, and the table then.
pub data Ended : Type 0 where
  value : ℤ → Table → Ended
  stopped : Cause → Table → Ended

-- the number goes on to what follows
abbrev pub and_then : Ended → (ℤ → Table → Ended) → Ended
and_then (value v w) k = k v w
and_then (stopped c w) k = stopped c w

abbrev pub number_at : ℕ → Option ℤ → Table → Ended
number_at p None w = stopped (no_number p) w
number_at p (Some v) w = value v w

abbrev pub calculated : Calculated → Table → Ended
calculated (gives v) w = value v w
calculated (fails f) w = stopped (fault f) w

-- by whether a number is zero
abbrev pub by_zero_or : {A : Type 0} → ℤ → A → A → A
by_zero_or u a b = if is_zero u then a else b

-- what `&&` and `||` are where the left side decides, and that it decides
abbrev pub decides : {A : Type 0} → Logic → ℤ → A → A → A
decides Both v a b = by_zero_or v a b
decides Either v a b = by_zero_or v b a

abbrev pub decided : Logic → ℤ
decided Both = pos 0
decided Either = pos 1

-- The assignment is made and gives its number, but for a name that is read only.
abbrev pub store : ℕ → List ℕ → ℤ → Table → Ended
store p x v w = if w.read_only x then stopped (is_read_only p x v) w else value v (assigned x v w)

-- The value of an expression. What `&&`, `||` and `?:` don't need is not evaluated. A compound assignment reads its name first.
abbrev pub evaluate : Tree → Table → Ended
evaluate (number n) w = value n w
evaluate (read p x) w = number_at p (value_of (w.value x)) w
evaluate (signed s t) w = and_then (evaluate t w) (λ v w'. value (with_sign s v) w')
evaluate (binary m a b) w = and_then (evaluate a w) (λ u w'. and_then (evaluate b w') (λ v w''. calculated (calculate m u v) w''))
evaluate (logic l a b) w = and_then (evaluate a w) (λ u w'. decides l u (value (decided l) w') (and_then (evaluate b w') (λ v w''. value (truth (not (is_zero v))) w'')))
evaluate (choice c a b) w = and_then (evaluate c w) (λ u w'. by_zero_or u (evaluate b w') (evaluate a w'))
evaluate (assign None p x t) w = and_then (evaluate t w) (λ v w'. store p x v w')
evaluate (assign (Some m) p x t) w = and_then (number_at p (value_of (w.value x)) w) (λ u w'. and_then (evaluate t w') (λ v w''. and_then (calculated (calculate m u v) w'') (λ r w3. store p x r w3)))

-- the assignments that are made, and the one that fails on a name that is read only
abbrev pub tried : Ended → List Assignment
tried (value v w) = w.made
tried (stopped (is_read_only p x v) w) = w.made ++ to x v ∷ []
tried (stopped (fault f) w) = w.made
tried (stopped (no_number p) w) = w.made
