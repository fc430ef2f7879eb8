-- The first bad token of a text: the tokens before it begin those of a script, and with it they begin none.
use Rattle.std.specs.Prelude.{◌≡◌, ℕ, suc, List, [], ◌∷◌, ◌++◌, take}
use Rattle.sh_syntax.specs.declared.fault.Fault.{Fault}
use Rattle.sh_syntax.specs.declared.fault.Fault.TheVariants.{TooDeep}
use Rattle.sh_syntax.specs.declared.tree.Script.{Script}
use Rattle.sh_lexer.specs.declared.token.Token.{Token}
use Rattle.sh_lexer.specs.declared.token.Mode.{Mode}
use Rattle.sh_lexer.specs.declared.token.Mode.TheVariants.{Command}
use Rattle.sh_lexer.specs.Modes.{Reads, mode_after}
use Rattle.sh_lexer.specs.Lexes.{Source, source, Front, found, ended, wrong, next, mode_at}
use Rattle.sh_lexer.specs.Trail.{Trail, beginning, moved, line_of}
use Rattle.sh_grammar.specs.Grammar.{Parses, max_nesting}
use Rattle.sh_grammar.specs.Spells.{Begins, BeginsWithin}
use Rattle.sh_script.specs.declared.openings.Stop.{Stop}
use Rattle.sh_script.specs.declared.openings.Stop.TheVariants as stop
use Rattle.sh_script.specs.Openings.{opened_after, blamed}
use Rattle.sh_script.specs.Turns.{ends_text, refused_at}

-- ---- lines

abbrev pub trail_after : Mode → Trail → List Token → Trail
trail_after m t [] = t
trail_after m t (k ∷ ks) = trail_after (mode_after m k) (moved m t) ks

-- the line of what comes after these tokens of the text
abbrev pub line_after : List ℕ → List Token → ℕ
line_after text ts = let t = moved (mode_at Command ts) (trail_after Command (beginning text) ts) in line_of t t.last

-- the line of token number n
abbrev pub line_of_token : List ℕ → List Token → ℕ → ℕ
line_of_token text ts n = line_after text (take n ts)

-- ---- what cannot follow

-- What is seen after these tokens is, however it is read, no token with which they begin those of a script.
abbrev pub Refused : ℕ → List Token → Token → Type 0
Refused d ts seen = (t : Token) → Reads seen t → BeginsWithin d (ts ++ t ∷ []) → ⊥

-- how a text stops after these tokens to be one that begins a script, also with room for one more opening
pub data Stops (ts : List Token) (left : Source) : Stop → Type 0 where
  refused : {seen : Token} {after : Source} → next (mode_at Command ts) left ≡ found seen after → Refused max_nesting ts seen → Refused (suc max_nesting) ts seen →
      Stops ts left (refused_at (ends_text seen))
  unformed : {f : Fault} → next (mode_at Command ts) left ≡ wrong f → Stops ts left (stop.Bad f)
  ended_early : next (mode_at Command ts) left ≡ ended → ((s : Script) → Parses s ts → ⊥) → Stops ts left stop.End

-- the fault and its line
abbrev pub named : List ℕ → List Token → Stop → Fault × ℕ
named text ts s = let b = blamed (line_of_token text ts) (opened_after ts) s in (b.0, line_of_token text ts b.1)

-- The text's first bad token has this fault, on this line.
pub data FirstBad (text : List ℕ) : Fault → ℕ → Type 0 where
  too_deep : (ts : List Token) (seen t : Token) (left after : Source) → Front Command (source text []) ts left → Begins ts →
      next (mode_at Command ts) left ≡ found seen after → Refused max_nesting ts seen → Reads seen t → BeginsWithin (suc max_nesting) (ts ++ t ∷ []) →
      FirstBad text TooDeep (line_after text ts)
  stops : {f : Fault} {line : ℕ} (ts : List Token) (left : Source) (s : Stop) → Front Command (source text []) ts left → Begins ts → Stops ts left s →
      named text ts s ≡ (f, line) → FirstBad text f line
