-- Reading a text token by token.
use Rattle.std.specs.Prelude.{◌≡◌, ℕ, zero, suc, Bool, true, false, List, [], ◌∷◌, ◌++◌, Option, Some, None}
use Rattle.sh_lexer.specs.declared.token.Token.{Token}
use Rattle.sh_lexer.specs.declared.token.Token.TheVariants as token
use Rattle.sh_lexer.specs.declared.token.End.{End}
use Rattle.sh_lexer.specs.declared.token.End.TheVariants as end
use Rattle.sh_lexer.specs.declared.token.Mode.{Mode}
use Rattle.sh_lexer.specs.declared.token.Mode.TheVariants.{Command}
use Rattle.sh_lexer.specs.Modes.{mode_after}
use Rattle.sh_lexer.specs.Lexes.{Source, Next, found, ended, wrong, next}
use Rattle.sh_lexer.specs.Trail.{Trail, source_of, beginning, moved, line_of}
use Rattle.sh_grammar.specs.Grammar.{max_nesting}
use Rattle.sh_grammar.specs.Machine.{State, step, start_within}
use Rattle.sh_machine.specs.Taken.{taken}
use Rattle.sh_script.specs.declared.openings.Openings.{Openings}
use Rattle.sh_script.specs.declared.openings.Stop.{Stop}
use Rattle.sh_script.specs.declared.openings.Stop.TheVariants as stop
use Rattle.sh_script.specs.declared.reading.Reader.{Reader}
use Rattle.sh_script.specs.declared.reading.Advance.{Advance}
use Rattle.sh_script.specs.declared.reading.Advance.TheVariants as advance
use Rattle.sh_script.specs.declared.reading.Halt.TheVariants as halt
use Rattle.sh_script.specs.Openings.{after_token, none_open}

-- before the first token, where d things may be open at once
abbrev pub reader_at : ℕ → List ℕ → Reader
reader_at d text = record { lexer = beginning text; machine = start_within d; mode = Command; openings = none_open }

abbrev pub is_cut_end : End → Bool
is_cut_end end.Text = true
is_cut_end e = false

-- the end of a text that was cut out
abbrev pub ends_text : Token → Bool
ends_text (token.End e m) = is_cut_end e
ends_text t = false

abbrev pub refused_at : Bool → Stop
refused_at true = stop.EndOfText
refused_at false = stop.Refused

-- after a token is told to be the one that is taken here
abbrev pub taken_by : Reader → Token → Token → Option State → Advance
taken_by r seen t (Some st) = advance.More st (mode_after r.mode t) (after_token t r.openings)
taken_by r seen t None = advance.Halts (halt.Stopped (refused_at (ends_text seen)) r.openings)

abbrev pub advanced_by : Reader → Next → Advance
advanced_by r (found seen q) = taken_by r seen (taken r.machine seen) (step r.machine (taken r.machine seen))
advanced_by r ended = advance.Halts (halt.Ended r.machine r.openings)
advanced_by r (wrong f) = advance.Halts (halt.Stopped (stop.Bad f) r.openings)

-- one more token, or why there is none
abbrev pub advanced : Reader → Advance
advanced r = advanced_by r (next r.mode (source_of r.lexer))

-- what the lexer is after it
abbrev pub lexer_after : Reader → Trail
lexer_after r = moved r.mode r.lexer

-- The line of the token that was asked for last, and whether it was taken.
abbrev pub looked_by : (Reader → ℕ × Bool) → Trail → Advance → ℕ × Bool
looked_by f t (advance.More st m o) = f (record { lexer = t; machine = st; mode = m; openings = o })
looked_by f t (advance.Halts h) = (line_of t t.last, false)

abbrev pub asked_last : Reader → ℕ × Bool
asked_last r = (line_of r.lexer r.lexer.last, true)

-- the same of token number n from here on, or of the one at which the reading stops before that
abbrev pub looked : ℕ → Reader → ℕ × Bool
looked zero r = looked_by asked_last (lexer_after r) (advanced r)
looked (suc n) r = looked_by (looked n) (lexer_after r) (advanced r)

-- how many things may be open at once: as many as are allowed, or one more
abbrev pub nesting : Bool → ℕ
nesting true = suc max_nesting
nesting false = max_nesting

-- the line of token number n of a text
abbrev pub line_again : List ℕ → ℕ → ℕ
line_again text n = (looked n (reader_at max_nesting text)).0

-- ---- readers that have come somewhere

-- the reader after one more token
abbrev pub onward : Reader → Token → State → Reader
onward r t st = record { lexer = lexer_after r; machine = st; mode = mode_after r.mode t; openings = after_token t r.openings }

-- The reader has come here by these tokens, where d things may be open at once.
pub data After (d : ℕ) (text : List ℕ) : List Token → Reader → Type 0 where
  at_start : After d text [] (reader_at d text)
  one_more : {ts : List Token} {r : Reader} (seen : Token) (st : State) → After d text ts r →
      next r.mode (source_of r.lexer) ≡ found seen (source_of (lexer_after r)) → step r.machine (taken r.machine seen) ≡ Some st →
      After d text (ts ++ taken r.machine seen ∷ []) (onward r (taken r.machine seen) st)
