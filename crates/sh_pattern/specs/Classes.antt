-- Character classes (POSIX.1-2017, XBD 9.3.5), in their meaning for ASCII (XBD 7.3.1, the POSIX locale).
use Rattle.std.specs.Prelude.{ℕ, Bool, true, false, not, ◌&&◌, ◌==◌, List, [], ◌∷◌, Option, codes}
use Rattle.std.specs.List.{find}
use Rattle.sh_pattern.specs.declared.item.ByteRange.{ByteRange}
use Rattle.sh_pattern.specs.declared.class.Class.{Class}
use Rattle.sh_pattern.specs.declared.class.Class.TheVariants.{Alnum, Alpha, Blank, Cntrl, Digit, Graph, Lower, Print, Punct, Space, Upper, Xdigit}

abbrev pub all_classes : List Class
all_classes = Alnum ∷ Alpha ∷ Blank ∷ Cntrl ∷ Digit ∷ Graph ∷ Lower ∷ Print ∷ Punct ∷ Space ∷ Upper ∷ Xdigit ∷ []

-- how the class is written, behind the opening bracket
abbrev pub written : Class → List ℕ
written Alnum = codes ":alnum:]"
written Alpha = codes ":alpha:]"
written Blank = codes ":blank:]"
written Cntrl = codes ":cntrl:]"
written Digit = codes ":digit:]"
written Graph = codes ":graph:]"
written Lower = codes ":lower:]"
written Print = codes ":print:]"
written Punct = codes ":punct:]"
written Space = codes ":space:]"
written Upper = codes ":upper:]"
written Xdigit = codes ":xdigit:]"

abbrev pub to : ℕ → ℕ → ByteRange
to low high = record { low = low; high = high }

-- the bytes of the class
abbrev pub class_ranges : Class → List ByteRange
class_ranges Alnum = to 48 57 ∷ to 65 90 ∷ to 97 122 ∷ []
class_ranges Alpha = to 65 90 ∷ to 97 122 ∷ []
class_ranges Blank = to 9 9 ∷ to 32 32 ∷ []
class_ranges Cntrl = to 0 31 ∷ to 127 127 ∷ []
class_ranges Digit = to 48 57 ∷ []
class_ranges Graph = to 33 126 ∷ []
class_ranges Lower = to 97 122 ∷ []
class_ranges Print = to 32 126 ∷ []
class_ranges Punct = to 33 47 ∷ to 58 64 ∷ to 91 96 ∷ to 123 126 ∷ []
class_ranges Space = to 9 13 ∷ to 32 32 ∷ []
class_ranges Upper = to 65 90 ∷ []
class_ranges Xdigit = to 48 57 ∷ to 65 70 ∷ to 97 102 ∷ []

-- these bytes come first, none of them quoted
abbrev pub begins : List ℕ → List (ℕ × Bool) → Bool
begins [] text = true
begins (b ∷ bs) [] = false
begins (b ∷ bs) (x ∷ r) = x.0 == b && not x.1 && begins bs r

-- the class that comes behind an opening bracket; a name that is none of these makes no class
unfoldable pub class_at : List (ℕ × Bool) → Option Class
class_at text = find (λ class. begins (written class) text) all_classes
