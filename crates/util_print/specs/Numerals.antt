-- Numbers in the words of `printf` (POSIX.1-2017, XCU, `printf`): a sign and a C constant, or a quote and a byte.
use Rattle.std.specs.Prelude.{ℕ, ◌+◌, ◌-◌, ◌*◌, ◌%◌, ◌^◌, Bool, true, false, not, ◌&&◌, ◌||◌, ◌==◌, nat_lt, nat_le, List, [], ◌∷◌, drop, Option, None, Some, if◌then◌else◌}
use Rattle.std.specs.Char.{digit_value}
use Rattle.std.specs.Fmt.{digits, decimal}
use Rattle.util_print.specs.declared.format.Style.{Style}
use Rattle.util_print.specs.declared.format.Style.TheVariants.{Signed, Unsigned, Octal, Hex, UpperHex}
use Rattle.util_print.specs.declared.numeral.Numeral.{Numeral}

-- ---- digits

abbrev pub up_to : ℕ → ℕ → Option ℕ
up_to most n = if nat_le n most then Some n else None

-- the number with a digit more: none where the byte is no digit of the radix, or the number is greater than the most
abbrev pub with_digit : ℕ → ℕ → ℕ → ℕ → Option ℕ
with_digit radix most n b = if nat_lt (digit_value b) radix then up_to most (n * radix + digit_value b) else None

abbrev pub digit_then : Option ℕ → ℕ → (ℕ → ℕ × Bool) → ℕ × Bool
digit_then None n rest = (n, false)
digit_then (Some m) n rest = rest m

-- The number that digits write behind others, which write the number so far, as long as it is not greater than the most; and whether
-- they are all that is there.
abbrev pub leading : ℕ → ℕ → ℕ → List ℕ → ℕ × Bool
leading radix most n [] = (n, true)
leading radix most n (b ∷ bs) = digit_then (with_digit radix most n b) n (λ m. leading radix most m bs)

abbrev pub no_numeral : Numeral
no_numeral = record { negative = false; magnitude = 0; whole = false }

abbrev pub numeral_of : Bool → ℕ × Bool → Numeral
numeral_of negative read = record { negative = negative; magnitude = read.0; whole = read.1 }

-- ---- C constants (ISO C, 6.4.4.1)

abbrev pub starts : (ℕ → Bool) → List ℕ → Bool
starts test [] = false
starts test (b ∷ bs) = test b

abbrev pub is_zero : ℕ → Bool
is_zero b = b == 48

abbrev pub is_x : ℕ → Bool
is_x b = b == 120 || b == 88

abbrev pub is_digit : ℕ → ℕ → Bool
is_digit radix b = nat_lt (digit_value b) radix

-- whether `0x` and a digit come first
abbrev pub is_hex : List ℕ → Bool
is_hex bs = starts is_zero bs && starts is_x (drop 1 bs) && starts (is_digit 16) (drop 2 bs)

abbrev pub constant : Bool → ℕ → List ℕ → Numeral
constant negative most bs =
    if is_hex bs then numeral_of negative (leading 16 most 0 (drop 2 bs))
    else (if starts is_zero bs then numeral_of negative (leading 8 most 0 bs)
    else (if starts (is_digit 10) bs then numeral_of negative (leading 10 most 0 bs)
    else no_numeral))

-- ---- words

-- the greatest magnitude that 64 bits hold, with a sign or without
abbrev pub most : Bool → Bool → ℕ
most signed negative = if signed then (if negative then 2 ^ 63 else 2 ^ 63 - 1) else 2 ^ 64 - 1

abbrev pub by_sign : Bool → ℕ → List ℕ → Numeral
by_sign signed b bs =
    if b == 45 then constant true (most signed true) bs
    else (if b == 43 then constant false (most signed false) bs
    else constant false (most signed false) (b ∷ bs))

abbrev pub is_quote : ℕ → Bool
is_quote b = b == 39 || b == 34

abbrev pub is_empty : List ℕ → Bool
is_empty [] = true
is_empty (b ∷ bs) = false

-- what stands behind a quote
abbrev pub quoted : List ℕ → Numeral
quoted [] = no_numeral
quoted (b ∷ bs) = record { negative = false; magnitude = b; whole = is_empty bs }

-- The number that a word writes: that of its longest part from the start which is a number, and 0 where there is none.
abbrev pub numeral : Bool → List ℕ → Numeral
numeral signed [] = no_numeral
numeral signed (b ∷ bs) = if is_quote b then quoted bs else by_sign signed b bs

-- ---- how numbers are written

-- modulo 2^64
abbrev pub modular : Numeral → ℕ
modular n = if n.negative then (2 ^ 64 - n.magnitude) % 2 ^ 64 else n.magnitude

abbrev pub is_signed : Style → Bool
is_signed Signed = true
is_signed Unsigned = false
is_signed Octal = false
is_signed Hex = false
is_signed UpperHex = false

-- without a sign
abbrev pub digits_in : Style → Numeral → List ℕ
digits_in Signed n = decimal n.magnitude
digits_in Unsigned n = decimal (modular n)
digits_in Octal n = digits 8 false (modular n)
digits_in Hex n = digits 16 false (modular n)
digits_in UpperHex n = digits 16 true (modular n)

abbrev pub has_sign : Style → Numeral → Bool
has_sign style n = is_signed style && n.negative && not (n.magnitude == 0)

abbrev pub sign_in : Style → Numeral → List ℕ
sign_in style n = if has_sign style n then 45 ∷ [] else []
