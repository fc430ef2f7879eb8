-- Classes of bytes, and runs of them.
use Rattle.std.specs.Prelude.{ℕ, Bool, true, false, not, ◌&&◌, ◌||◌, ◌==◌, ◌+◌, ◌*◌, ◌-◌, nat_le, List, [], ◌∷◌, ◌++◌, Option, Some, None}
use Rattle.sh_lexer.specs.declared.bytes.Class.{Class}
use Rattle.sh_lexer.specs.declared.bytes.Class.TheVariants as class

abbrev pub between : ℕ → ℕ → ℕ → Bool
between low high b = nat_le low b && nat_le b high

abbrev pub is_digit : ℕ → Bool
is_digit b = between 48 57 b

-- a byte that may begin a shell name: a letter or `_`
abbrev pub begins_name : ℕ → Bool
begins_name b = between 97 122 b || between 65 90 b || b == 95

abbrev pub in_name : ℕ → Bool
in_name b = begins_name b || is_digit b

abbrev pub all_in_name : List ℕ → Bool
all_in_name [] = true
all_in_name (b ∷ r) = in_name b && all_in_name r

-- a shell name (POSIX.1-2017, XBD 3.235)
abbrev pub is_name : List ℕ → Bool
is_name [] = false
is_name (b ∷ r) = begins_name b && all_in_name r

-- space and tab
abbrev pub blank : ℕ → Bool
blank b = b == 32 || b == 9

-- A byte that ends a word where it isn't quoted: a blank, a newline, or one of & ( ) ; < > |
abbrev pub delimits : ℕ → Bool
delimits b = blank b || b == 10 || b == 38 || b == 40 || b == 41 || b == 59 || b == 60 || b == 62 || b == 124

abbrev pub ends_word : List ℕ → Bool
ends_word [] = true
ends_word (b ∷ r) = delimits b

-- NUL, `$`, backquote and backslash stand for themselves nowhere but in single quotes
unfoldable pub special : ℕ → Bool
special b = b == 0 || b == 36 || b == 92 || b == 96

-- a byte that stands for itself in a word
abbrev pub plain : ℕ → Bool
plain b = not (delimits b || special b || b == 34 || b == 39)

-- in double quotes
abbrev pub quoted_plain : ℕ → Bool
quoted_plain b = not (special b || b == 34)

-- in the word of `${x-`, outside and inside double quotes
abbrev pub braces_plain : ℕ → Bool
braces_plain b = not (special b || b == 34 || b == 39 || b == 125)

abbrev pub quoted_braces_plain : ℕ → Bool
quoted_braces_plain b = not (special b || b == 34 || b == 125)

-- in the body of a here-document
abbrev pub body_plain : ℕ → Bool
body_plain b = not (special b)

-- ---- joined lines: a backslash and a newline (XCU 2.2.1)

abbrev pub joins : ℕ → ℕ → Bool
joins b c = b == 92 && c == 10

-- the text without the joined lines at its front
unfoldable pub peel : List ℕ → List ℕ
peel [] = []
peel (b ∷ []) = b ∷ []
peel (b ∷ c ∷ r) = elim (joins b c) [ true ↦ peel r | false ↦ b ∷ c ∷ r ]

-- up to the newline, or to a NUL (XCU 2.3, rule 9). A backslash is a plain byte here
unfoldable pub comment : List ℕ → List ℕ
comment [] = []
comment (b ∷ r) = elim (b == 10 || b == 0) [ true ↦ b ∷ r | false ↦ comment r ]

-- the text without blanks, joined lines and a comment at its front
unfoldable pub skip : List ℕ → List ℕ
unfolding comment
skip [] = []
skip (b ∷ []) = elim (blank b) [ true ↦ [] | false ↦ elim (b == 35) [ true ↦ [] | false ↦ b ∷ [] ] ]
skip (b ∷ c ∷ r) = elim (blank b) [
  | true ↦ skip (c ∷ r)
  | false ↦ elim (joins b c) [ true ↦ skip r | false ↦ elim (b == 35) [ true ↦ comment (c ∷ r) | false ↦ b ∷ c ∷ r ] ]
]

abbrev pub onto : ℕ → List ℕ × List ℕ → List ℕ × List ℕ
onto b p = (b ∷ p.0, p.1)

-- the longest run of bytes that pass the test, without joined lines, and the bytes after it
unfoldable pub piece : (ℕ → Bool) → List ℕ → List ℕ × List ℕ
piece p [] = ([], [])
piece p (b ∷ []) = elim (p b) [ true ↦ (b ∷ [], []) | false ↦ ([], b ∷ []) ]
piece p (b ∷ c ∷ r) = elim (joins b c) [ true ↦ piece p r | false ↦ elim (p b) [ true ↦ onto b (piece p (c ∷ r)) | false ↦ ([], b ∷ c ∷ r) ] ]

-- up to the next single quote (XCU 2.2.2)
unfoldable pub single : List ℕ → Option (List ℕ × List ℕ)
single [] = None
single (b ∷ r) = elim (b == 39) [ true ↦ Some ([], r) | false ↦ elim (single r) [ None ↦ None | Some p ↦ Some (onto b p) ] ]

abbrev pub has_nul : List ℕ → Bool
has_nul [] = false
has_nul (b ∷ r) = b == 0 || has_nul r

-- the number that digits stand for, after those before
unfoldable pub number : ℕ → List ℕ → ℕ
number n [] = n
number n (b ∷ r) = number (n * 10 + (b - 48)) r

-- ---- which bytes a piece is made of

unfoldable pub stands : Class → ℕ → Bool
stands class.Digit b = is_digit b
stands class.Name b = in_name b
stands class.Plain b = plain b
stands class.Quoted b = quoted_plain b
stands class.Braces b = braces_plain b
stands class.QuotedBraces b = quoted_braces_plain b
stands class.Body b = body_plain b

-- bytes that were read before
abbrev pub with_front : List ℕ → List ℕ × List ℕ → List ℕ × List ℕ
with_front front p = (front ++ p.0, p.1)

abbrev pub map_front : List ℕ → Option (List ℕ × List ℕ) → Option (List ℕ × List ℕ)
map_front front None = None
map_front front (Some p) = Some (with_front front p)
