-- Formats and words of `printf`, and what is written.
use Rattle.std.proofs.Common.{◌≡◌, true, ℕ, [], ◌∷◌, Some, None, List, Option, refl, codes}
use Rattle.std.specs.Fmt.{digits}
use Rattle.util_print.specs.Formats.{parts}
use Rattle.util_print.specs.Numerals.{numeral}
use Rattle.util_print.specs.Printf.{without_dashes}
use Rattle.util_print.specs.Shown.{all_parts, bad_words, written}
use Rattle.util_print.specs.declared.format.Part.{Part}

-- the text for these words, where the format is one
abbrev text_by : Option (List Part) → List (List ℕ) → Option (List ℕ)
text_by None words = None
text_by (Some ps) words = Some (written (all_parts ps words) words)

abbrev text : List ℕ → List (List ℕ) → Option (List ℕ)
text format words = text_by (parts format) words

abbrev bad_by : Option (List Part) → List (List ℕ) → List (List ℕ)
bad_by None words = []
bad_by (Some ps) words = bad_words (all_parts ps words) words

plain : text (codes "a\\nb\\n") [] ≡ Some (codes "a\nb\n")
plain = refl

again : text (codes "%s-%s ") (codes "a" ∷ codes "b" ∷ codes "c" ∷ []) ≡ Some (codes "a-b c- ")
again = refl

once : text (codes "x") (codes "a" ∷ codes "b" ∷ []) ≡ Some (codes "x")
once = refl

cut : text (codes "%.2s|%3.1s|%c|") (codes "abc" ∷ codes "vw" ∷ codes "xyz" ∷ []) ≡ Some (codes "ab|  v|x|")
cut = refl

percent : text (codes "%%%s%%") (codes "a" ∷ []) ≡ Some (codes "%a%")
percent = refl

octal : text (codes "\\101\\501\\0411") [] ≡ Some (codes "AA!1")
octal = refl

columns : text (codes "%5s|%-3d|%03x") (codes "ab" ∷ codes "7" ∷ codes "255" ∷ []) ≡ Some (codes "   ab|7  |0ff")
unfolding digits
columns = refl

missing : text (codes "%s%d") [] ≡ Some (codes "0")
unfolding digits
missing = refl

minus : text (codes "%05d") (codes "-42" ∷ []) ≡ Some (codes "-0042")
unfolding digits
minus = refl

all_bits : text (codes "%x") (codes "-1" ∷ []) ≡ Some (codes "ffffffffffffffff")
unfolding digits
all_bits = refl

-- a bad number, of which the longest part is written
half : text (codes "%d") (codes "7x" ∷ []) ≡ Some (codes "7")
unfolding digits
half = refl

half_bad : bad_by (parts (codes "%d")) (codes "7x" ∷ codes "8" ∷ codes "" ∷ []) ≡ codes "7x" ∷ [] ∷ []
half_bad = refl

-- numbers that 64 bits do not hold
too_great : (numeral true (codes "9223372036854775808")).magnitude ≡ 922337203685477580
too_great = refl

least : (numeral true (codes "-9223372036854775808")).whole ≡ true
least = refl

quote : (numeral true (codes "'a")).magnitude ≡ 97
quote = refl

-- ---- formats that are none

no_conversion : parts (codes "%z") ≡ None
no_conversion = refl

no_escape : parts (codes "\\q") ≡ None
no_escape = refl

no_end : parts (codes "a\\") ≡ None
no_end = refl

no_percent : parts (codes "%5%") ≡ None
no_percent = refl

no_precision : parts (codes "%.3d") ≡ None
no_precision = refl

too_wide : parts (codes "%100001s") ≡ None
too_wide = refl

dashes : without_dashes (codes "--" ∷ codes "%s" ∷ []) ≡ codes "%s" ∷ []
dashes = refl
