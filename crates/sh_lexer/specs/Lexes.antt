-- The tokens of a text. How a token is read follows from the one before it and from how that was read.
use Rattle.std.specs.Prelude.{◌≡◌, ℕ, List, [], ◌∷◌, Option, Some, None}
use Rattle.sh_syntax.specs.declared.fault.Fault.{Fault}
use Rattle.sh_syntax.specs.declared.fault.Fault.TheVariants.{Unclosed}
use Rattle.sh_syntax.specs.declared.fault.Opening.TheVariants as opening
use Rattle.sh_lexer.specs.declared.token.Token.{Token}
use Rattle.sh_lexer.specs.declared.token.Token.TheVariants as token
use Rattle.sh_lexer.specs.declared.token.End.TheVariants as end
use Rattle.sh_lexer.specs.declared.token.Mode.{Mode}
use Rattle.sh_lexer.specs.declared.token.Mode.TheVariants as mode
use Rattle.sh_lexer.specs.Lex.{Lexed, got, opens, done, bad, lex}
use Rattle.sh_lexer.specs.Modes.{Reads, mode_after}

-- The text that is being read, and those from which it and the ones round it were cut out: what follows there. None: the end
-- of the text that was cut out is missing.
pub record Source : Type 0 where
  pub text : List ℕ
  pub outer : List (Option (List ℕ))

abbrev pub source : List ℕ → List (Option (List ℕ)) → Source
source text outer = record { text = text; outer = outer }

-- what comes next: a token, the end, or why there is neither
pub data Next : Type 0 where
  found : Token → Source → Next
  ended : Next
  wrong : Fault → Next

-- The text that was cut out is read.
abbrev pub after_text : List (Option (List ℕ)) → Next
after_text [] = ended
after_text (None ∷ outer) = wrong (Unclosed opening.Backquote)
after_text (Some r ∷ outer) = found (token.End end.Text mode.Command) (source r outer)

abbrev pub in_source : List (Option (List ℕ)) → Lexed → Next
in_source outer (got t r) = found t (source r outer)
in_source outer (opens t x r) = found t (source x (r ∷ outer))
in_source outer done = after_text outer
in_source outer (bad f) = wrong f

abbrev pub next : Mode → Source → Next
next m s = in_source s.outer (lex m s.text)

-- The text is these tokens, from a mode on.
abbrev pub Lexes : Mode → Source → List Token → Type 0
Lexes m s [] = next m s ≡ ended
Lexes m s (t ∷ ts) = (seen : Token) × (rest : Source) × (next m s ≡ found seen rest) × Reads seen t × Lexes (mode_after m t) rest ts

-- The tokens come first in the text, and the rest is after them.
abbrev pub Front : Mode → Source → List Token → Source → Type 0
Front m s [] rest = s ≡ rest
Front m s (t ∷ ts) rest = (seen : Token) × (r : Source) × (next m s ≡ found seen r) × Reads seen t × Front (mode_after m t) r ts rest

-- the mode after the tokens
abbrev pub mode_at : Mode → List Token → Mode
mode_at m [] = m
mode_at m (t ∷ ts) = mode_at (mode_after m t) ts
