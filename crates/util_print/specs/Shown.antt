-- What `printf` writes for its words (POSIX.1-2017, XCU, `printf`).
use Rattle.std.specs.Prelude.{ℕ, zero, suc, ◌+◌, ◌-◌, ◌/◌, max, Bool, true, false, not, ◌&&◌, List, [], ◌∷◌, ◌++◌, length, take, drop, replicate, Option, None, Some, if◌then◌else◌}
use Rattle.std.specs.List.{list_any}
use Rattle.util_print.specs.Numerals.{digits_in, is_signed, numeral, sign_in}
use Rattle.util_print.specs.declared.format.Conversion.{Conversion}
use Rattle.util_print.specs.declared.format.Conversion.TheVariants.{Word, Byte, Number}
use Rattle.util_print.specs.declared.format.Directive.{Directive}
use Rattle.util_print.specs.declared.format.Part.{Part}
use Rattle.util_print.specs.declared.format.Part.TheVariants.{Plain, Shown}
use Rattle.util_print.specs.declared.format.Style.{Style}
use Rattle.util_print.specs.declared.numeral.Numeral.{Numeral}

-- ---- one word

-- spaces at the right or at the left, up to a width
abbrev pub padded : Bool → ℕ → List ℕ → List ℕ
padded left width text = if left then text ++ replicate (width - length text) 32 else replicate (width - length text) 32 ++ text

abbrev pub cut : Option ℕ → List ℕ → List ℕ
cut None word = word
cut (Some n) word = take n word

-- zeros between a sign and the digits, up to a width
abbrev pub with_zeros : ℕ → List ℕ → List ℕ → List ℕ
with_zeros width sign digits = sign ++ (replicate (width - (length sign + length digits)) 48 ++ digits)

abbrev pub takes_zeros : Directive → Bool
takes_zeros d = d.zeros && not d.left

abbrev pub number_text : Directive → List ℕ → List ℕ → List ℕ
number_text d sign digits = if takes_zeros d then with_zeros d.width sign digits else padded d.left d.width (sign ++ digits)

abbrev pub number_shown : Directive → Style → Numeral → List ℕ
number_shown d style n = number_text d (sign_in style n) (digits_in style n)

-- A missing number is 0.
abbrev pub missing_number : Numeral
missing_number = record { negative = false; magnitude = 0; whole = true }

-- the number of the first word
abbrev pub first_number : Style → List (List ℕ) → Numeral
first_number style [] = missing_number
first_number style (word ∷ words) = numeral (is_signed style) word

-- the first word; a missing one is empty
abbrev pub first_word : List (List ℕ) → List ℕ
first_word [] = []
first_word (word ∷ words) = word

abbrev pub shown_as : Conversion → Directive → List (List ℕ) → List ℕ
shown_as Word d words = padded d.left d.width (cut d.precision (first_word words))
shown_as Byte d words = padded d.left d.width (take 1 (first_word words))
shown_as (Number style) d words = number_shown d style (first_number style words)

-- what a directive writes for the first of these words
abbrev pub shown : Directive → List (List ℕ) → List ℕ
shown d words = shown_as d.conversion d words

-- whether a word should write a number, and does not
abbrev pub is_bad : Conversion → List ℕ → Bool
is_bad Word word = false
is_bad Byte word = false
is_bad (Number style) word = not (numeral (is_signed style) word).whole

-- the first word, where it should write a number and does not
abbrev pub bad_first : Conversion → List (List ℕ) → List (List ℕ)
bad_first conversion [] = []
bad_first conversion (word ∷ words) = if is_bad conversion word then word ∷ [] else []

-- ---- all words

-- the text of a part, which takes the first word where it shows one
abbrev pub part_text : Part → List (List ℕ) → List ℕ
part_text (Plain b) words = b ∷ []
part_text (Shown d) words = shown d words

abbrev pub part_bad : Part → List (List ℕ) → List (List ℕ)
part_bad (Plain b) words = []
part_bad (Shown d) words = bad_first d.conversion words

abbrev pub takes_word : Part → Bool
takes_word (Plain b) = false
takes_word (Shown d) = true

-- how many words a part takes
abbrev pub part_taken : Part → ℕ
part_taken p = if takes_word p then 1 else 0

-- the text of the parts
abbrev pub written : List Part → List (List ℕ) → List ℕ
written [] words = []
written (p ∷ ps) words = part_text p words ++ written ps (drop (part_taken p) words)

-- the words among them that are bad numbers
abbrev pub bad_words : List Part → List (List ℕ) → List (List ℕ)
bad_words [] words = []
bad_words (p ∷ ps) words = part_bad p words ++ bad_words ps (drop (part_taken p) words)

-- how many words the parts take
abbrev pub taken : List Part → ℕ
taken [] = 0
taken (p ∷ ps) = part_taken p + taken ps

abbrev pub takes_words : List Part → Bool
takes_words ps = list_any takes_word ps

-- A format is used as often as there are words for it, and once at least; one that takes no word is used once.
abbrev pub rounds : ℕ → ℕ → ℕ
rounds words zero = 1
rounds words (suc n) = max 1 ((words + n) / suc n)

-- a format, so many times
abbrev pub repeated : ℕ → List Part → List Part
repeated zero ps = []
repeated (suc n) ps = ps ++ repeated n ps

abbrev pub all_parts : List Part → List (List ℕ) → List Part
all_parts ps words = repeated (rounds (length words) (taken ps)) ps
