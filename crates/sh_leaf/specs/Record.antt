-- What contracts see of a leaf that was run ahead, and what each such record keeps.
use Rattle.std.specs.Prelude.{◌≡◌, ℕ, ◌+◌, List, []}
use Rattle.hs_world.specs.Reads.{ReadList, Fresh, Passes}
use Rattle.hs_world.specs.World.{WorldData, AllValid}
use Rattle.hs_world.specs.declared.effect.Effect.{Effect}
use Rattle.hs_view.specs.View.{IsTree}
use Rattle.sh_syntax.specs.declared.tree.Script.{Script}
use Rattle.sh_leaf.specs.Do.{Do, most_frames, most_nested}
use Rattle.sh_leaf.specs.State.{Gave, begin, make}
use Rattle.sh_leaf.specs.declared.outcome.Outcome.{Outcome}

pub record RecordData : Type 0 where
  pub script : Script
  pub number : ℕ
  pub reads : ReadList
  pub effects : List Effect
  pub outcome : Outcome
  pub turns : ℕ

-- In this state, with any turns more than the record's, the leaf has exactly its effects, its outcome and its turns.
abbrev pub DoneIn : RecordData → WorldData → Type 0
DoneIn r w = (more : ℕ) → Do r.script most_nested most_frames r.number (begin w (r.turns + more) []) ≡ Gave r.outcome (make r.effects (begin w more []))

pub record Holds (r : RecordData) : Type 0 where
  -- in every state that passes the reads
  pub exact : (w : WorldData) → IsTree w.tree → Passes r.reads w → DoneIn r w
  pub valid : (w : WorldData) → IsTree w.tree → Passes r.reads w → AllValid r.effects w
  pub fresh : Fresh r.reads
