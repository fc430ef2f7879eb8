-- Constants of an expression and the numbers that names have (POSIX.1-2017, XCU 2.6.4; ISO C, 6.4.4.1).
use Rattle.std.specs.Prelude.{ℕ, ◌+◌, ◌-◌, ◌*◌, ◌^◌, Bool, ◌&&◌, ◌||◌, ◌==◌, nat_le, nat_lt, List, [], ◌∷◌, take, drop, Option, Some, None, if◌then◌else◌, ℤ, pos, neg_ℤ}
use Rattle.std.specs.List.{prefix_len, list_all}

-- space and tab
abbrev pub blank : ℕ → Bool
blank b = b == 32 || b == 9

abbrev pub between : ℕ → ℕ → ℕ → Bool
between low high b = nat_le low b && nat_le b high

abbrev pub decimal : ℕ → Bool
decimal b = between 48 57 b

-- a letter, a digit or `_`
abbrev pub word_byte : ℕ → Bool
word_byte b = between 97 122 b || between 65 90 b || between 48 57 b || b == 95

-- what a byte is worth as a digit: letters go on from 10, and other bytes are no digits of any base
abbrev pub worth : ℕ → ℕ
worth b = if between 48 57 b then b - 48 else (if between 97 122 b then b - 87 else (if between 65 90 b then b - 55 else 36))

-- the number that digits write behind others, which write the number so far; none where one is no digit of the base
abbrev pub digits : ℕ → ℕ → List ℕ → Option ℕ
digits base sofar [] = Some sofar
digits base sofar (b ∷ bs) = if nat_lt (worth b) base then digits base (sofar * base + worth b) bs else None

-- after `0x`
abbrev pub hexadecimal : List ℕ → Option ℕ
hexadecimal [] = None
hexadecimal (b ∷ bs) = digits 16 0 (b ∷ bs)

-- after `0`
abbrev pub after_zero : List ℕ → Option ℕ
after_zero [] = Some 0
after_zero (b ∷ bs) = if b == 120 || b == 88 then hexadecimal bs else digits 8 0 (b ∷ bs)

-- the number that a constant writes
abbrev pub constant : List ℕ → Option ℕ
constant [] = None
constant (b ∷ bs) = if b == 48 then after_zero bs else digits 10 0 (b ∷ bs)

-- a number up to the limit
abbrev pub within : ℕ → Option ℕ → Option ℕ
within limit None = None
within limit (Some n) = if nat_le n limit then Some n else None

-- the greatest number
abbrev pub greatest : ℕ
greatest = 2 ^ 63 - 1

abbrev pub positive : Option ℕ → Option ℤ
positive None = None
positive (Some n) = Some (pos n)

abbrev pub negative : Option ℕ → Option ℤ
negative None = None
negative (Some n) = Some (neg_ℤ (pos n))

-- a constant and blanks after it
abbrev pub unsigned : List ℕ → Option ℕ
unsigned text = let n = prefix_len word_byte text in if list_all blank (drop n text) then constant (take n text) else None

-- an optional sign, a constant, blanks
abbrev pub signed : List ℕ → Option ℤ
signed [] = None
signed (b ∷ r) = if b == 45 then negative (within (2 ^ 63) (unsigned r)) else (if b == 43 then positive (within greatest (unsigned r)) else positive (within greatest (unsigned (b ∷ r))))

-- the number that the value of a name writes: a sign and a constant, with blanks at both ends
abbrev pub number_of : List ℕ → Option ℤ
number_of text = signed (drop (prefix_len blank text) text)

-- the number of a name by its value, if it has one
abbrev pub value_of : Option (List ℕ) → Option ℤ
value_of None = Some (pos 0)
value_of (Some []) = Some (pos 0)
value_of (Some (b ∷ bs)) = number_of (b ∷ bs)

-- a digit more, where it is one and the number stays within the limit
abbrev pub one_digit : ℕ → ℕ → ℕ → ℕ → Option ℕ
one_digit base limit sofar b = if nat_lt (worth b) base then within limit (Some (sofar * base + worth b)) else None
