-- Sets of bytes, as the words of `tr` write them (POSIX.1-2017, XCU, `tr`, EXTENDED DESCRIPTION). Their bytes are in order, and a byte
-- can come more than once.
use Rattle.std.specs.Prelude.{◌≡◌, ℕ, zero, suc, ◌+◌, ◌*◌, ◌-◌, ◌%◌, Bool, not, ◌&&◌, ◌==◌, nat_le, nat_lt, List, [], ◌∷◌, ◌++◌, length, drop, Option, None, Some, if◌then◌else◌}
use Rattle.std.specs.List.{list_any, range_with_len}
use Rattle.util_lines.specs.ByteClass.{class_at, has_byte, written}
use Rattle.util_lines.specs.declared.byte_class.Class as class
use Rattle.util_lines.specs.declared.byte_set.Element.{Element}
use Rattle.util_lines.specs.declared.byte_set.Element.TheVariants.{Class, Range}
use Rattle.util_lines.specs.declared.byte_set.Place.{Place}
use Rattle.util_lines.specs.declared.byte_set.SetErr.{SetErr}
use Rattle.util_lines.specs.declared.byte_set.SetErr.TheVariants.{BadSet, NoMemory}

-- ---- one byte

-- a byte, and how many bytes it is written with behind the first
abbrev pub place : ℕ → ℕ → Place
place byte more = record { byte = byte; more = more }

-- the value of an octal digit that comes
abbrev pub digit_at : List ℕ → Option ℕ
digit_at [] = None
digit_at (b ∷ bs) = if nat_le 48 b && nat_le b 55 then Some (b - 48) else None

abbrev pub three_digits : ℕ → ℕ → Option ℕ → Place
three_digits a b None = place (a * 8 + b) 2
three_digits a b (Some c) = place ((a * 64 + b * 8 + c) % 256) 3

abbrev pub two_digits : ℕ → Option ℕ → List ℕ → Place
two_digits a None bs = place a 1
two_digits a (Some b) bs = three_digits a b (digit_at (drop 1 bs))

-- what stands behind a backslash that stands for no byte of its own
abbrev pub named : ℕ → ℕ
named b = if b == 110 then 10 else (if b == 116 then 9 else b)

abbrev pub named_or_digits : ℕ → Option ℕ → List ℕ → Place
named_or_digits b None bs = place (named b) 1
named_or_digits b (Some digit) bs = two_digits digit (digit_at bs) bs

-- A backslash before up to three octal digits is the byte of that number, modulo 256; `\n` is a newline and `\t` a tab. Before another
-- byte it stands for that byte, and at the end for itself.
abbrev pub escaped : List ℕ → Place
escaped [] = place 92 0
escaped (b ∷ bs) = named_or_digits b (digit_at (b ∷ bs)) bs

-- the byte that is written here, by this byte before these
abbrev pub place_at : ℕ → List ℕ → Place
place_at b bs = if b == 92 then escaped bs else place b 0

-- ---- an element of a set

-- the end of a range: `-` comes, and a byte
abbrev pub range_end : List ℕ → Option Place
range_end [] = None
range_end (b ∷ []) = None
range_end (b ∷ c ∷ bs) = if b == 45 then Some (place_at c bs) else None

abbrev pub range_or_byte : Place → Option Place → Element × ℕ
range_or_byte low None = (Range low.byte low.byte, low.more)
range_or_byte low (Some high) = (Range low.byte high.byte, low.more + 2 + high.more)

abbrev pub class_or : Element × ℕ → Option class.Class → Element × ℕ
class_or other None = other
class_or other (Some c) = (Class c, length (written c))

abbrev pub range_at : Place → List ℕ → Element × ℕ
range_at low bs = range_or_byte low (range_end (drop low.more bs))

-- the element that is written here, by this byte before these, and how many bytes it is written with behind the first
abbrev pub element_at : ℕ → List ℕ → Element × ℕ
element_at b bs = if b == 91 then class_or (range_at (place_at b bs) bs) (class_at bs) else range_at (place_at b bs) bs

-- ---- the bytes

abbrev pub has : List ℕ → ℕ → Bool
has set b = list_any (λ x. x == b) set

abbrev pub one_where : Bool → ℕ → List ℕ
one_where wanted b = if wanted then b ∷ [] else []

-- those of so many bytes, from one on, that pass
unfoldable pub bytes_from : (ℕ → Bool) → ℕ → ℕ → List ℕ
bytes_from test b zero = []
bytes_from test b (suc n) = one_where (test b) b ++ bytes_from test (b + 1) n

-- the bytes that pass, ascending
abbrev pub bytes_where : (ℕ → Bool) → List ℕ
bytes_where test = bytes_from test 0 256

-- the bytes from one to another; a range that falls has none
abbrev pub range_bytes : ℕ → ℕ → Option (List ℕ)
range_bytes low high = if nat_lt high low then None else Some (range_with_len low (high + 1 - low))

abbrev pub element_bytes : Element → Option (List ℕ)
element_bytes (Class c) = Some (bytes_where (has_byte c))
element_bytes (Range low high) = range_bytes low high

-- these bytes before the others, where both are right
abbrev pub before : Option (List ℕ) → Option (List ℕ) → Option (List ℕ)
before None others = None
before (Some bytes) None = None
before (Some bytes) (Some others) = Some (bytes ++ others)

-- the set that a word writes; none where a range falls. The first bytes, so many, belong to an element before.
abbrev pub set_from : ℕ → List ℕ → Option (List ℕ)
set_from skip [] = Some []
set_from (suc skip) (b ∷ bs) = set_from skip bs
set_from zero (b ∷ bs) = let first = element_at b bs in before (element_bytes first.0) (set_from first.1 bs)

abbrev pub set_of : List ℕ → Option (List ℕ)
set_of word = set_from 0 word

-- all other bytes, ascending
abbrev pub complement : List ℕ → List ℕ
complement set = bytes_where (λ b. not (has set b))

-- the error tells of a word that writes no set, but for want of memory
abbrev pub Refuses : {X : Type 0} → SetErr → Option X → Type 0
Refuses BadSet made = made ≡ None
Refuses NoMemory made = Unit {0}
