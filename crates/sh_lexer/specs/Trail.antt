-- A text that is being read, and where in it: places, and the lines that they are on.
use Rattle.std.specs.Prelude.{◌≡◌, ◌≤◌, ℕ, zero, suc, not, ◌+◌, ◌-◌, ◌*◌, ◌==◌, ◌&&◌, nat_lt, Bool, true, false, List, [], ◌∷◌, length, take, drop, map, count_by, Option, Some, None, Result, Ok, Err, if◌then◌else◌}
use Rattle.sh_lexer.specs.declared.token.Token.{Token}
use Rattle.sh_lexer.specs.declared.token.Token.TheVariants as token
use Rattle.sh_lexer.specs.declared.token.End.TheVariants as end
use Rattle.sh_lexer.specs.declared.token.Mode.{Mode}
use Rattle.sh_lexer.specs.declared.token.Mode.TheVariants as mode
use Rattle.sh_lexer.specs.declared.read.LexError.{LexError}
use Rattle.sh_lexer.specs.declared.read.LexError.TheVariants as error
use Rattle.sh_lexer.specs.declared.place.Place.{Place}
use Rattle.sh_lexer.specs.declared.place.Outer.{Outer}
use Rattle.sh_lexer.specs.declared.place.Cutting.{Cutting}
use Rattle.sh_lexer.specs.declared.place.How.{How}
use Rattle.sh_lexer.specs.declared.place.How.TheVariants as how
use Rattle.sh_lexer.specs.Bytes.{joins}
use Rattle.sh_lexer.specs.Cut.{unquoted_in_backquotes}
use Rattle.sh_lexer.specs.Lex.{Lexed, got, opens, done, bad, lex, start}
use Rattle.sh_lexer.specs.Lexes.{Source, source, found, ended, wrong, next}

-- ---- where the bytes of a text that was cut out come from

-- After a backquote: the text from the byte on that byte number i of the text between backquotes was made of.
unfoldable pub in_backquotes : ℕ → List ℕ → List ℕ
in_backquotes zero t = t
in_backquotes (suc i) [] = []
in_backquotes (suc i) (b ∷ []) = []
in_backquotes (suc i) (b ∷ c ∷ r) = elim (b == 92 && unquoted_in_backquotes c) [ true ↦ in_backquotes i r | false ↦ in_backquotes i (c ∷ r) ]

-- The same for the body of a here-document that is expanded: with tabs dropped at the front of lines or not, at the front of
-- a line or not, and behind a backslash that quotes or not.
unfoldable pub in_body : Bool → Bool → Bool → ℕ → List ℕ → List ℕ
in_body strip front quoted i [] = []
in_body strip front quoted zero (b ∷ []) = elim (strip && (front && b == 9)) [ true ↦ [] | false ↦ b ∷ [] ]
in_body strip front quoted (suc i) (b ∷ []) = []
in_body strip front quoted i (b ∷ c ∷ r) = elim (strip && (front && b == 9)) [
  | true ↦ in_body strip front quoted i (c ∷ r)
  | false ↦ elim (not quoted && joins b c) [
    | true ↦ in_body strip front quoted i r
    | false ↦ elim i [ zero ↦ b ∷ c ∷ r | suc j ↦ in_body strip (b == 10) (not quoted && b == 92) j (c ∷ r) ]
  ]
]

abbrev pub origin : How → ℕ → List ℕ → List ℕ
origin how.Backquotes i t = in_backquotes i t
origin (how.Body strip) i t = in_body strip true false i t

-- ---- lines

-- the offset in a text of what byte number i of the text that was cut out of it was made of
abbrev pub outer_offset : Cutting → List ℕ → ℕ → ℕ
outer_offset c t i = length t - length (origin c.how i (drop c.start t))

abbrev pub newlines : List ℕ → ℕ
newlines t = count_by (λ b. b == 10) t

-- The line of byte number i of a text, from 1 on. Then come the texts that it was cut out of, the nearest one first.
abbrev pub line_in : List ℕ → ℕ → List Outer → ℕ
line_in t i [] = newlines (take i t) + 1
line_in t i (o ∷ os) = line_in o.text (outer_offset o.cutting o.text i) os

-- the same for a text that is n texts further out
abbrev pub line_from : List ℕ → List Outer → ℕ → ℕ → ℕ
line_from t os zero i = line_in t i os
line_from t [] (suc n) i = line_in t i []
line_from t (o ∷ os) (suc n) i = line_from o.text os n i

-- ---- reading

-- The text that is being read, how many of its bytes were read, those that it was cut out of, the nearest one first, where the
-- token begins that was asked for last, and, if that token was the end of a text, how that text was cut out of this one.
pub record Trail : Type 0 where
  pub whole : List ℕ
  pub at : ℕ
  pub outer : List Outer
  pub last : Place
  pub closed : Option Cutting

abbrev pub at_beginning : Place
at_beginning = record { depth = 0; offset = 0 }

abbrev pub beginning : List ℕ → Trail
beginning text = record { whole = text; at = 0; outer = []; last = at_beginning; closed = None }

abbrev pub left : Trail → List ℕ
left t = drop t.at t.whole

abbrev pub after : Outer → Option (List ℕ)
after o = if o.ends then Some (drop o.at o.text) else None

abbrev pub source_of : Trail → Source
source_of t = source (left t) (map after t.outer)

-- in the text that ended last
abbrev pub line_ended : Option Cutting → List ℕ → ℕ → List Outer → ℕ
line_ended None t i os = line_in t i os
line_ended (Some c) t i os = line_in t (outer_offset c t i) os

abbrev pub line_of : Trail → Place → ℕ
line_of t p =
    if nat_lt (length t.outer) p.depth then line_ended t.closed t.whole p.offset t.outer
    else line_from t.whole t.outer (length t.outer - p.depth) p.offset

-- where the next token begins
abbrev pub begins : Mode → Trail → Place
begins m t = record { depth = length t.outer; offset = length t.whole - length (start m (left t)) }

abbrev pub asked : Place → Trail → Trail
asked p t = record { whole = t.whole; at = t.at; outer = t.outer; last = p; closed = None }

abbrev pub how_of : Mode → How
how_of (mode.Cut h) = how.Body h.strip
how_of m = how.Backquotes

-- A backquote is not of the text behind it.
abbrev pub cut_at : Mode → ℕ → ℕ
cut_at (mode.Cut h) n = n
cut_at m n = n + 1

abbrev pub cutting : Mode → ℕ → Cutting
cutting m n = record { how = how_of m; start = cut_at m n }

-- a text out of which one was cut by a token that begins at n, and where it goes on after that
abbrev pub cut_from : Mode → ℕ → List ℕ → Option (List ℕ) → Outer
cut_from m n t (Some r) = record { text = t; at = length t - length r; ends = true; cutting = cutting m n }
cut_from m n t None = record { text = t; at = length t; ends = false; cutting = cutting m n }

abbrev pub ended_by : Place → Trail → List Outer → Trail
ended_by p t [] = asked p t
ended_by p t (o ∷ os) = if o.ends then record { whole = o.text; at = o.at; outer = os; last = p; closed = Some o.cutting } else asked p t

abbrev pub moved_by : Mode → Place → Trail → Lexed → Trail
moved_by m p t (got k r) = record { whole = t.whole; at = length t.whole - length r; outer = t.outer; last = p; closed = None }
moved_by m p t (opens k x r) = record { whole = x; at = 0; outer = cut_from m p.offset t.whole r ∷ t.outer; last = p; closed = None }
moved_by m p t done = ended_by p t t.outer
moved_by m p t (bad f) = asked p t

-- after the next token was asked for
abbrev pub moved : Mode → Trail → Trail
moved m t = moved_by m (begins m t) t (lex m (left t))

-- ---- what `next` answers, and what it leaves

abbrev pub Reads : Result Token LexError → Mode → Trail → Trail → Type 0
Reads (Ok k) m old new = next m (source_of old) ≡ found k (source_of new)
Reads (Err error.End) m old new = next m (source_of old) ≡ ended
Reads (Err (error.Bad f)) m old new = next m (source_of old) ≡ wrong f
Reads (Err error.Memory) m old new = Unit {0}

abbrev pub Moves : Result Token LexError → Mode → Trail → Trail → Type 0
Moves (Err error.Memory) m old new = new ≡ asked (begins m old) old
Moves r m old new = new ≡ moved m old

-- ---- how much is left to read. Each token leaves less, but the end of a word, which may leave as much.

abbrev pub outer_size : List (Option (List ℕ)) → ℕ
outer_size [] = 0
outer_size (None ∷ os) = outer_size os + 1
outer_size (Some r ∷ os) = outer_size os + 2 * length r + 1

abbrev pub size : Source → ℕ
size s = 2 * length s.text + outer_size s.outer

-- how much a token takes at least
abbrev pub least : Token → ℕ
least (token.End end.Word m) = 0
least t = 1

abbrev pub Shrinks : Result Token LexError → Trail → Trail → Type 0
Shrinks (Ok k) old new = size (source_of new) + least k ≤ size (source_of old)
Shrinks (Err e) old new = Unit {0}
