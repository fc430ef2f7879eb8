-- Which texts a pattern matches (POSIX.1-2017, XCU 2.13.1 and 2.13.2), by cases on its first item.
-- Every byte is an ordinary one here, also the slash and a newline.
use Rattle.std.specs.Prelude.{◌≡◌, ◌-◌, ◌<◌, ◌≤◌, ℕ, Bool, true, false, not, ◌&&◌, ◌||◌, ◌==◌, nat_le, List, [], ◌∷◌, length, take, drop, Option, Some, None, if◌then◌else◌}
use Rattle.std.specs.List.{list_any}
use Rattle.sh_pattern.specs.declared.item.ByteRange.{ByteRange}
use Rattle.sh_pattern.specs.declared.item.Item.{Item}
use Rattle.sh_pattern.specs.declared.item.Item.TheVariants.{Star, Any, Byte, OneOf}
use Rattle.sh_pattern.specs.Sets.{Bracket}

-- ---- one byte

abbrev pub within : ByteRange → ℕ → Bool
within range byte = nat_le range.low byte && nat_le byte range.high

abbrev pub listed : List ByteRange → ℕ → Bool
listed ranges byte = list_any (λ range. within range byte) ranges

abbrev pub has : Bracket → ℕ → Bool
has set byte = if set.negated then not (listed set.ranges byte) else listed set.ranges byte

abbrev pub is_star : Item → Bool
is_star Star = true
is_star Any = false
is_star (Byte b) = false
is_star (OneOf set) = false

-- whether it is the one byte that the item takes
abbrev pub takes : Item → ℕ → Bool
takes Star byte = false
takes Any byte = true
takes (Byte b) byte = b == byte
takes (OneOf set) byte = has set byte

-- ---- texts

abbrev pub is_empty : List ℕ → Bool
is_empty [] = true
is_empty (b ∷ bs) = false

-- the test holds of the text, or of a rest of it
abbrev pub some_rest : (List ℕ → Bool) → List ℕ → Bool
some_rest test [] = test []
some_rest test (b ∷ bs) = test (b ∷ bs) || some_rest test bs

-- the item takes a front of the text so that the test holds of the rest
abbrev pub front : Item → (List ℕ → Bool) → List ℕ → Bool
front Star test bytes = some_rest test bytes
front item test [] = false
front item test (b ∷ bs) = takes item b && test bs

-- the pattern matches the whole text
abbrev pub matched : List Item → List ℕ → Bool
matched [] bytes = is_empty bytes
matched (item ∷ items) bytes = front item (matched items) bytes

-- ---- parts of a text

-- the least number up to the last for which the test holds
abbrev pub IsLeast : (ℕ → Bool) → ℕ → Option ℕ → Type 0
IsLeast test last None = (k : ℕ) → k ≤ last → test k ≡ false
IsLeast test last (Some n) = (n ≤ last) × (test n ≡ true) × ((k : ℕ) → k < n → test k ≡ false)

-- the greatest number up to the last for which the test holds
abbrev pub IsGreatest : (ℕ → Bool) → ℕ → Option ℕ → Type 0
IsGreatest test last None = (k : ℕ) → k ≤ last → test k ≡ false
IsGreatest test last (Some n) = (n ≤ last) × (test n ≡ true) × ((k : ℕ) → n < k → k ≤ last → test k ≡ false)

-- the pattern matches the prefix of this length
abbrev pub matches_prefix : List Item → List ℕ → ℕ → Bool
matches_prefix items bytes n = matched items (take n bytes)

-- the pattern matches the suffix of this length
abbrev pub matches_suffix : List Item → List ℕ → ℕ → Bool
matches_suffix items bytes n = matched items (drop (length bytes - n) bytes)
