-- What a script does: one recursion over its lists, on one state that is handed on. Nothing is cut inside: a run goes on
-- as if each effect fitted, and `cut` then ends it before the first that doesn't.
use Rattle.std.specs.Prelude.{ℕ, suc, List, [], ◌∷◌, Option, Some, None, slice_get}
use Rattle.hs_world.specs.declared.effect.Effect.TheVariants.{SetStatus}
use Rattle.hs_world.specs.World.{WorldData}
use Rattle.sh_syntax.specs.declared.tree.AndOr.{AndOr}
use Rattle.sh_syntax.specs.declared.tree.List as tree
use Rattle.sh_syntax.specs.declared.tree.Script.{Script}
use Rattle.sh_leaf.specs.Do.{Do, most_frames, most_nested}
use Rattle.sh_leaf.specs.State.{State, Answer, Stop, Got, Gave, Ends, onward, make, begin}
use Rattle.sh_leaf.specs.declared.outcome.Outcome.{Outcome}
use Rattle.sh_leaf.specs.declared.outcome.Outcome.TheVariants.{Status, Break, Continue, Return, Exit}

-- ---- lists (POSIX.1-2017, XCU 2.9.3)

abbrev pub items_of : Option tree.List → List AndOr
items_of None = []
items_of (Some list) = list.items

abbrev pub list_at : Script → ℕ → List AndOr
list_at script n = items_of (slice_get script.lists n)

-- one leaf more was done whole
abbrev pub counted : Outcome → State → Got Outcome
counted outcome σ = Gave outcome (record σ { leaves = suc σ.leaves })

abbrev pub run_leaf : Script → ℕ → State → Got Outcome
run_leaf script k σ = onward (Do script most_nested most_frames k σ) counted

-- The further commands of a list, after one that came to this. What is no status leaves the rest out.
abbrev pub run_items : Script → List AndOr → Outcome → State → Got Outcome
run_items script [] outcome σ = Gave outcome σ
run_items script (x ∷ xs) (Status s) σ = onward (run_leaf script x.first σ) (run_items script xs)
run_items script (x ∷ xs) outcome σ = Gave outcome σ

-- the commands one after another; a list without commands gives status 0
abbrev pub run_list : Script → List AndOr → State → Got Outcome
run_list script [] σ = Gave (Status 0) (make (SetStatus 0 ∷ []) σ)
run_list script (x ∷ xs) σ = run_items script (x ∷ xs) (Status 0) σ

-- ---- the whole run

pub data Ending : Type 0 where
  Done : ℕ → Ending
  Stopped : Stop → Ending

pub record Final : Type 0 where
  pub ending : Ending
  pub state : State

-- the status of a script that ends so; a `break` or `continue` has status 0
abbrev pub status_of : Outcome → ℕ
status_of (Status s) = s
status_of (Break n) = 0
status_of (Continue n) = 0
status_of (Return s) = s
status_of (Exit s) = s

abbrev pub ended : Got Outcome → Final
ended (Gave outcome σ) = record { ending = Done (status_of outcome); state = σ }
ended (Ends stop σ) = record { ending = Stopped stop; state = σ }

-- with nothing cut off
abbrev pub whole_run : Script → WorldData → ℕ → List Answer → Final
whole_run script w turns answers = ended (run_list script (list_at script 0) (begin w turns answers))
