-- What `parse` answers.
use Rattle.std.specs.Prelude.{◌≡◌, ℕ, List, Result, Ok, Err}
use Rattle.sh_syntax.specs.declared.fault.Fault.{Fault}
use Rattle.sh_syntax.specs.declared.fault.Fault.TheVariants.{TooLong}
use Rattle.sh_syntax.specs.declared.tree.Script.{Script}
use Rattle.sh_grammar.specs.Spells.{Spells}
use Rattle.sh_script.specs.declared.error.ParseErr.{ParseErr}
use Rattle.sh_script.specs.declared.error.ParseErr.TheVariants as err
use Rattle.sh_script.specs.FirstBad.{FirstBad}

-- The script is the one that the text spells.
pub record IsScript (s : Script) (text : List ℕ) : Type 0 where
  pub spelled : Spells s text
  pub only : (u : Script) → Spells u text → u ≡ s

-- This is the text's one first bad token, and it spells no script.
pub record IsBad (f : Fault) (line : ℕ) (text : List ℕ) : Type 0 where
  pub bad : FirstBad text f line
  pub only : (g : Fault) (k : ℕ) → FirstBad text g k → (g ≡ f) × (k ≡ line)
  pub none : (u : Script) → Spells u text → ⊥

-- The answer is the one script that the text spells, or the fault of its first bad token.
abbrev pub Answers : Result Script ParseErr → List ℕ → Type 0
Answers (Ok s) text = IsScript s text
Answers (Err (err.Syntax line f)) text = IsBad f line text
Answers (Err err.NoMemory) text = Unit {0}

abbrev pub too_long : Result Script ParseErr
too_long = Err (err.Syntax 1 TooLong)
