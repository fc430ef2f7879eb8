-- The items of a field (POSIX.1-2017, XCU 2.13.1). Each byte of a field comes with whether it is quoted.
use Rattle.std.specs.Prelude.{◌≡◌, ◌≤◌, ℕ, zero, suc, ◌+◌, Bool, true, false, not, ◌&&◌, ◌==◌, List, [], ◌∷◌, ◌++◌, length, drop, slice_index_or, Option, Some, None, is_some, if◌then◌else◌}
use Rattle.sh_pattern.specs.declared.item.ByteRange.{ByteRange}
use Rattle.sh_pattern.specs.declared.item.Item.{Item}
use Rattle.sh_pattern.specs.declared.item.Item.TheVariants as item
use Rattle.sh_pattern.specs.declared.bracket.Element.{Element}
use Rattle.sh_pattern.specs.declared.bracket.Element.TheVariants.{Class, Range, Byte}
use Rattle.sh_pattern.specs.declared.class.Class as class
use Rattle.sh_pattern.specs.Classes.{written, class_ranges, class_at, to}
use Rattle.sh_pattern.specs.Sets.{Bracket}

-- the byte, not quoted
abbrev pub plain : ℕ → ℕ × Bool → Bool
plain b x = x.0 == b && not x.1

-- ---- backslashes

-- An unquoted backslash quotes the next byte, and stands for itself at the end. The first argument says whether one comes before.
abbrev pub unescaped : Bool → List (ℕ × Bool) → List (ℕ × Bool)
unescaped false [] = []
unescaped true [] = (92, false) ∷ []
unescaped true (x ∷ r) = (x.0, true) ∷ unescaped false r
unescaped false (x ∷ r) = if plain 92 x then unescaped true r else x ∷ unescaped false r

-- ---- bracket expressions (XBD 9.3.5)

-- the end of a range: two bytes come, `-` and a byte that is no closing bracket
abbrev pub range_end : List (ℕ × Bool) → Option ℕ
range_end [] = None
range_end (x ∷ []) = None
range_end (x ∷ y ∷ r) = if plain 45 x && not (plain 93 y) then Some y.0 else None

abbrev pub range_or_byte : ℕ → Option ℕ → Element
range_or_byte low None = Byte low
range_or_byte low (Some high) = Range (to low high)

abbrev pub class_or : Element → Option class.Class → Element
class_or other None = other
class_or other (Some c) = Class c

-- the element that begins with this byte, before these
abbrev pub element : ℕ × Bool → List (ℕ × Bool) → Element
element x r =
    let other = range_or_byte x.0 (range_end r) in
    if plain 91 x then class_or other (class_at r) else other

-- the bytes that it lists
abbrev pub ranges_of : Element → List ByteRange
ranges_of (Class c) = class_ranges c
ranges_of (Range range) = range ∷ []
ranges_of (Byte b) = to b b ∷ []

-- how many bytes it has behind its first
abbrev pub more : Element → ℕ
more (Class c) = length (written c)
more (Range range) = 2
more (Byte b) = 0

-- What is listed up to the closing bracket, and how many bytes come up to it and with it: here those behind these ranges and
-- so many bytes.
abbrev pub behind : List ByteRange → ℕ → Option (List ByteRange × ℕ) → Option (List ByteRange × ℕ)
behind ranges count None = None
behind ranges count (Some found) = Some (ranges ++ found.0, found.1 + count)

-- The elements up to the closing bracket, if it comes. The first bytes, so many, belong to an element before.
abbrev pub elements : ℕ → List (ℕ × Bool) → Option (List ByteRange × ℕ)
elements skip [] = None
elements (suc skip) (x ∷ r) = behind [] 1 (elements skip r)
elements zero (x ∷ r) = if plain 93 x then Some ([], 1) else behind (ranges_of (element x r)) 1 (elements (more (element x r)) r)

-- a closing bracket that comes first stands for itself
abbrev pub elements_first : List (ℕ × Bool) → Option (List ByteRange × ℕ)
elements_first [] = None
elements_first (x ∷ r) = behind (ranges_of (element x r)) 1 (elements (more (element x r)) r)

abbrev pub with_sign : Bool → ℕ → Option (List ByteRange × ℕ) → Option (Bracket × ℕ)
with_sign negated before None = None
with_sign negated before (Some found) = Some (record { negated = negated; ranges = found.0 }, found.1 + before)

-- a bracket expression behind its opening bracket, and how many bytes it has there
abbrev pub bracket : List (ℕ × Bool) → Option (Bracket × ℕ)
bracket [] = None
bracket (x ∷ r) = if plain 33 x then with_sign true 1 (elements_first r) else with_sign false 0 (elements_first (x ∷ r))

-- whether the closing bracket comes for elements that begin here
abbrev pub closes : List (ℕ × Bool) → Bool
closes text = is_some (elements 0 text)

-- the table says so for each rest of the text
pub record IsClosings (table : List Bool) (text : List (ℕ × Bool)) : Type 0 where
  pub len : length table ≡ length text + 1
  pub each : (k : ℕ) → k ≤ length text → slice_index_or table k false ≡ closes (drop k text)

-- ---- items

-- an opening bracket without its closing one stands for itself
abbrev pub set_or_byte : Option (Bracket × ℕ) → Item × ℕ
set_or_byte None = (item.Byte 91, 0)
set_or_byte (Some found) = (item.OneOf found.0, found.1)

-- the item that begins with this byte, before these, and how many of these it has
abbrev pub item_at : ℕ × Bool → List (ℕ × Bool) → Item × ℕ
item_at x r =
    if plain 42 x then (item.Star, 0)
    else (if plain 63 x then (item.Any, 0)
    else (if plain 91 x then set_or_byte (bracket r)
    else (item.Byte x.0, 0)))

-- The first bytes, so many, belong to an item before.
abbrev pub items_from : ℕ → List (ℕ × Bool) → List Item
items_from skip [] = []
items_from (suc skip) (x ∷ r) = items_from skip r
items_from zero (x ∷ r) = let first = item_at x r in first.0 ∷ items_from first.1 r

abbrev pub items_of : List (ℕ × Bool) → List Item
items_of field = items_from 0 (unescaped false field)
