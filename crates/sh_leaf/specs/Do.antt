-- What one leaf does.
use Rattle.std.specs.Prelude.{ℕ, slice_get}
use Rattle.sh_syntax.specs.declared.tree.Script.{Script}
use Rattle.sh_leaf.specs.Command.{leaf_done}
use Rattle.sh_leaf.specs.State.{State, Got, did, with_turn}
use Rattle.sh_leaf.specs.declared.outcome.Outcome.{Outcome}

-- the most that may be begun in one another: compound commands and calls, and nested runs
abbrev pub most_frames : ℕ
most_frames = 2000

abbrev pub most_nested : ℕ
most_nested = 64

-- Leaf k of the script, with so many nested runs and frames left. It takes a turn, and then does what its words say.
abbrev pub Do : Script → (nested frames k : ℕ) → State → Got Outcome
Do script nested frames k σ = with_turn σ.turns (λ τ. did (leaf_done (slice_get script.leaves k) τ.world) τ) σ
