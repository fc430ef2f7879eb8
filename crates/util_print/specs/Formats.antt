-- Formats of `printf` (POSIX.1-2017, XBD 5 and XCU, `printf`).
use Rattle.std.specs.Prelude.{ℕ, zero, suc, ◌+◌, ◌-◌, ◌%◌, ◌^◌, min, Bool, true, false, ◌&&◌, ◌||◌, ◌==◌, nat_le, List, [], ◌∷◌, length, take, drop, Option, None, Some, if◌then◌else◌}
use Rattle.std.specs.Char.{is_ascii_digit}
use Rattle.std.specs.List.{list_any, prefix_len, take_while}
use Rattle.std.specs.Str.Parse.{digits_value}
use Rattle.util_print.specs.declared.format.Conversion.{Conversion}
use Rattle.util_print.specs.declared.format.Conversion.TheVariants.{Word, Byte, Number}
use Rattle.util_print.specs.declared.format.Style.TheVariants.{Signed, Unsigned, Octal, Hex, UpperHex}
use Rattle.util_print.specs.declared.format.Directive.{Directive}
use Rattle.util_print.specs.declared.format.Part.{Part}
use Rattle.util_print.specs.declared.format.Part.TheVariants as part

-- the number that digits of a radix write, or the greatest count where it is greater: no text has so many bytes
abbrev pub count : ℕ → List ℕ → ℕ
count radix ds = min (digits_value radix ds) (2 ^ 64 - 1)

-- ---- escapes: what stands behind a backslash, and how many bytes of it belong to it

abbrev pub is_octal : ℕ → Bool
is_octal b = nat_le 48 b && nat_le b 55

-- the bytes that letters stand for
abbrev pub letter : ℕ → Option ℕ
letter b =
    if b == 92 then Some 92
    else (if b == 97 then Some 7
    else (if b == 98 then Some 8
    else (if b == 102 then Some 12
    else (if b == 110 then Some 10
    else (if b == 114 then Some 13
    else (if b == 116 then Some 9
    else (if b == 118 then Some 11
    else None)))))))

-- one to three octal digits
abbrev pub octal_digits : List ℕ → List ℕ
octal_digits bs = take_while is_octal (take 3 bs)

abbrev pub lettered : Option ℕ → Option (Part × ℕ)
lettered None = None
lettered (Some b) = Some (part.Plain b, 1)

abbrev pub by_letter : List ℕ → Option (Part × ℕ)
by_letter [] = None
by_letter (b ∷ bs) = lettered (letter b)

-- An octal number above 255 is taken modulo 256.
abbrev pub by_digits : List ℕ → List ℕ → Option (Part × ℕ)
by_digits [] bs = by_letter bs
by_digits (d ∷ ds) bs = Some (part.Plain (count 8 (d ∷ ds) % 256), length (d ∷ ds))

abbrev pub escape : List ℕ → Option (Part × ℕ)
escape bs = by_digits (octal_digits bs) bs

-- ---- directives: what stands behind a `%`

abbrev pub conversion : ℕ → Option Conversion
conversion b =
    if b == 115 then Some Word
    else (if b == 99 then Some Byte
    else (if b == 100 then Some (Number Signed)
    else (if b == 105 then Some (Number Signed)
    else (if b == 117 then Some (Number Unsigned)
    else (if b == 111 then Some (Number Octal)
    else (if b == 120 then Some (Number Hex)
    else (if b == 88 then Some (Number UpperHex)
    else None)))))))

abbrev pub conversion_at : List ℕ → Option Conversion
conversion_at [] = None
conversion_at (b ∷ bs) = conversion b

abbrev pub is_flag : ℕ → Bool
is_flag b = b == 45 || b == 48

abbrev pub has_flag : ℕ → List ℕ → Bool
has_flag flag flags = list_any (λ b. b == flag) flags

-- the digits that come first, and what stands behind them
abbrev pub digits_at : List ℕ → List ℕ
digits_at bs = take_while is_ascii_digit bs

abbrev pub behind_digits : List ℕ → List ℕ
behind_digits bs = drop (prefix_len is_ascii_digit bs) bs

-- a point and the digits behind it
abbrev pub precision : List ℕ → Option ℕ
precision [] = None
precision (b ∷ bs) = if b == 46 then Some (count 10 (digits_at bs)) else None

abbrev pub precision_len : List ℕ → ℕ
precision_len [] = 0
precision_len (b ∷ bs) = if b == 46 then 1 + prefix_len is_ascii_digit bs else 0

-- A precision is for words alone.
abbrev pub is_word : Conversion → Bool
is_word Word = true
is_word Byte = false
is_word (Number style) = false

abbrev pub takes_precision : Option ℕ → Conversion → Bool
takes_precision None conversion = true
takes_precision (Some n) conversion = is_word conversion

-- The width is 100,000 at most.
abbrev pub is_right : ℕ → Option ℕ → Conversion → Bool
is_right width precision conversion = nat_le width 100000 && takes_precision precision conversion

abbrev pub directive_of : List ℕ → ℕ → Option ℕ → Conversion → Directive
directive_of flags width precision conversion =
    record { left = has_flag 45 flags; zeros = has_flag 48 flags; width = width; precision = precision; conversion = conversion }

abbrev pub checked : List ℕ → ℕ → Option ℕ → Option Conversion → Option Directive
checked flags width precision None = None
checked flags width precision (Some conversion) = if is_right width precision conversion then Some (directive_of flags width precision conversion) else None

abbrev pub shown_with : ℕ → Option Directive → Option (Part × ℕ)
shown_with len None = None
shown_with len (Some d) = Some (part.Shown d, len)

-- flags, the digits of a width, and behind them a precision and the conversion
abbrev pub behind_width : List ℕ → List ℕ → List ℕ → Option (Part × ℕ)
behind_width flags digits bs =
    shown_with (length flags + length digits + precision_len bs + 1)
    (checked flags (count 10 digits) (precision bs) (conversion_at (drop (precision_len bs) bs)))

abbrev pub behind_flags : List ℕ → List ℕ → Option (Part × ℕ)
behind_flags flags bs = behind_width flags (digits_at bs) (behind_digits bs)

abbrev pub directive : List ℕ → Option (Part × ℕ)
directive bs = behind_flags (take_while is_flag bs) (drop (prefix_len is_flag bs) bs)

-- a second `%` stands for itself
abbrev pub percent_or_directive : ℕ → List ℕ → Option (Part × ℕ)
percent_or_directive b bs = if b == 37 then Some (part.Plain b, 1) else directive bs

abbrev pub behind_percent : List ℕ → Option (Part × ℕ)
behind_percent [] = None
behind_percent (b ∷ bs) = percent_or_directive b (b ∷ bs)

-- ---- all of a format

-- the part that this byte begins, and how many bytes behind it belong to the part
abbrev pub part_at : ℕ → List ℕ → Option (Part × ℕ)
part_at b bs = if b == 37 then behind_percent bs else (if b == 92 then escape bs else Some (part.Plain b, 0))

abbrev pub with_part : Part → Option (List Part) → Option (List Part)
with_part p None = None
with_part p (Some ps) = Some (p ∷ ps)

abbrev pub part_then : Option (Part × ℕ) → (ℕ → Option (List Part)) → Option (List Part)
part_then None rest = None
part_then (Some (p, n)) rest = with_part p (rest n)

-- the parts of a format behind so many bytes; none where it is no format
abbrev pub parts_behind : ℕ → List ℕ → Option (List Part)
parts_behind n [] = Some []
parts_behind (suc n) (b ∷ bs) = parts_behind n bs
parts_behind zero (b ∷ bs) = part_then (part_at b bs) (λ n. parts_behind n bs)

abbrev pub parts : List ℕ → Option (List Part)
parts format = parts_behind 0 format
