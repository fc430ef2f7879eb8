-- What reading an expression answers.
use Rattle.std.specs.Prelude.{◌≡◌, ℕ, List, [], Result, Ok, Err}
use Rattle.sh_arith.specs.declared.instr.Instr.{Instr}
use Rattle.sh_arith.specs.declared.reading.ReadErr.{ReadErr}
use Rattle.sh_arith.specs.declared.reading.ReadErr.TheVariants as err
use Rattle.sh_arith.specs.Grammar.{Tree, IsTreeOf, FirstBad, Spells}
use Rattle.sh_arith.specs.Machine.{emit}

-- the instructions of the one expression of the text
pub record IsCodeOf (code : List Instr) (text : List ℕ) : Type 0 where
  pub tree : Tree
  pub of_text : IsTreeOf tree text
  pub same : code ≡ emit tree []

-- the text is no expression, and this is its first bad token
pub record IsNone (place : ℕ) (text : List ℕ) : Type 0 where
  pub first : FirstBad text place
  pub none : (t : Tree) → Spells t text → ⊥

abbrev pub Reads : Result (List Instr) ReadErr → List ℕ → Type 0
Reads (Ok code) text = IsCodeOf code text
Reads (Err (err.Bad p)) text = IsNone p text
Reads (Err err.Memory) text = Unit {0}
