-- What it means that a text spells a script.
use Rattle.std.specs.Prelude.{ℕ, List, [], ◌++◌}
use Rattle.sh_syntax.specs.declared.tree.Script.{Script}
use Rattle.sh_lexer.specs.declared.token.Token.{Token}
use Rattle.sh_lexer.specs.declared.token.Mode.TheVariants.{Command}
use Rattle.sh_lexer.specs.Lexes.{Lexes, source}
use Rattle.sh_grammar.specs.Grammar.{ParsesWithin, max_nesting}

-- The text is cut into tokens, and the grammar derives the script from them, with at most d things open at once.
pub record SpellsWithin (d : ℕ) (s : Script) (text : List ℕ) : Type 0 where
  pub tokens : List Token
  pub lexed : Lexes Command (source text []) tokens
  pub parsed : ParsesWithin d s tokens

abbrev pub Spells : Script → List ℕ → Type 0
Spells s text = SpellsWithin max_nesting s text

-- The tokens begin those of a script.
abbrev pub BeginsWithin : ℕ → List Token → Type 0
BeginsWithin d ts = (more : List Token) × (s : Script) × ParsesWithin d s (ts ++ more)

abbrev pub Begins : List Token → Type 0
Begins ts = BeginsWithin max_nesting ts
