-- Character classes (POSIX.1-2017, XBD 7.3.1), in the POSIX locale.
use Rattle.std.specs.Prelude.{ℕ, Bool, ◌||◌, ◌==◌, List, [], ◌∷◌, Option, nat_eq, codes}
use Rattle.std.specs.Char.{is_ascii_alphabetic, is_ascii_alphanumeric, is_ascii_control, is_ascii_digit, is_ascii_graphic, is_ascii_hexdigit, is_ascii_lowercase, is_ascii_punctuation, is_ascii_uppercase, is_ascii_whitespace}
use Rattle.std.specs.List.{find, starts_with}
use Rattle.util_lines.specs.declared.byte_class.Class.{Class}
use Rattle.util_lines.specs.declared.byte_class.Class.TheVariants.{Alnum, Alpha, Blank, Cntrl, Digit, Graph, Lower, Print, Punct, Space, Upper, Xdigit}

abbrev pub all_classes : List Class
all_classes = Alnum ∷ Alpha ∷ Blank ∷ Cntrl ∷ Digit ∷ Graph ∷ Lower ∷ Print ∷ Punct ∷ Space ∷ Upper ∷ Xdigit ∷ []

-- how the class is written, behind an opening bracket
abbrev pub written : Class → List ℕ
written Alnum = codes ":alnum:]"
written Alpha = codes ":alpha:]"
written Blank = codes ":blank:]"
written Cntrl = codes ":cntrl:]"
written Digit = codes ":digit:]"
written Graph = codes ":graph:]"
written Lower = codes ":lower:]"
written Print = codes ":print:]"
written Punct = codes ":punct:]"
written Space = codes ":space:]"
written Upper = codes ":upper:]"
written Xdigit = codes ":xdigit:]"

-- whether the class has the byte
abbrev pub has_byte : Class → ℕ → Bool
has_byte Alnum b = is_ascii_alphanumeric b
has_byte Alpha b = is_ascii_alphabetic b
has_byte Blank b = b == 9 || b == 32
has_byte Cntrl b = is_ascii_control b
has_byte Digit b = is_ascii_digit b
has_byte Graph b = is_ascii_graphic b
has_byte Lower b = is_ascii_lowercase b
has_byte Print b = is_ascii_graphic b || b == 32
has_byte Punct b = is_ascii_punctuation b
has_byte Space b = is_ascii_whitespace b || b == 11
has_byte Upper b = is_ascii_uppercase b
has_byte Xdigit b = is_ascii_hexdigit b

-- the class that comes behind an opening bracket; a name that is none of these makes no class
unfoldable pub class_at : List ℕ → Option Class
class_at text = find (λ class. starts_with nat_eq text (written class)) all_classes
