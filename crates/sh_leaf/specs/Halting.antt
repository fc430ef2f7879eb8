-- How a leaf that is run ahead comes to a halt.
use Rattle.std.specs.Prelude.{◌≡◌, ℕ, Bool, true, false, List, [], ◌∷◌, ◌++◌}
use Rattle.hs_world.specs.Reads.{ReadList, Passes}
use Rattle.hs_world.specs.World.{WorldData}
use Rattle.hs_world.specs.declared.effect.Effect.{Effect}
use Rattle.hs_overlay.specs.Overlay.{no_overlay, over_all}
use Rattle.hs_overlay.specs.Sizes.{over_passes}
use Rattle.hs_view.specs.Known.{ends_in, routes_in}
use Rattle.hs_view.specs.Steps.{IsFront}
use Rattle.hs_view.specs.View.{IsTree}
use Rattle.hs_view.specs.declared.halt.Halt.{Halt}
use Rattle.hs_view.specs.declared.halt.Halt.TheVariants as halt
use Rattle.hs_view.specs.declared.halt.SpentKind.TheVariants as kind
use Rattle.sh_syntax.specs.declared.tree.Script.{Script}
use Rattle.sh_leaf.specs.Do.{Do}
use Rattle.sh_leaf.specs.State.{State, Stop, Ran_out, Asks, Got, Ends, begin, state_of}
use Rattle.sh_leaf.specs.declared.fuel.Fuel.{Fuel}
use Rattle.sh_leaf.specs.declared.outcome.Outcome.{Outcome}

-- what the leaf does in this state, with so much left
abbrev pub leaf_in : Script → ℕ → Fuel → WorldData → Got Outcome
leaf_in script number fuel w = Do script fuel.nested fuel.frames number (begin w fuel.turns [])

-- the halt that tells that a leaf itself stops
abbrev pub halt_of : Stop → Halt
halt_of (Ran_out k) = halt.Spent k
halt_of (Asks request) = halt.Outside

abbrev pub is_stop : Halt → Bool
is_stop halt.Outside = true
is_stop (halt.Spent kind.Turns) = true
is_stop (halt.Spent kind.Frames) = true
is_stop _ = false

-- the leaf itself stops, with all that it did
pub record StopsSo (did : Got Outcome) (effects : List Effect) (h : Halt) : Type 0 where
  pub stop : Stop
  pub state : State
  pub is : did ≡ Ends stop state
  pub halt_is : h ≡ halt_of stop
  pub effects_are : effects ≡ state.effects

-- Of the leaf's effects these come first, and the next one is too long, as far as the reads and these tell.
pub record IsTooLong (did : Got Outcome) (reads : ReadList) (effects : List Effect) : Type 0 where
  pub next : Effect
  pub rest : List Effect
  pub is : (state_of did).effects ≡ effects ++ next ∷ rest
  pub long : over_passes next (over_all effects (no_overlay (ends_in reads) (routes_in reads))) ≡ true

-- What is known of a halt, in each state that passes what was read.
pub record Halts (did : WorldData → Got Outcome) (reads : ReadList) (effects : List Effect) (h : Halt) : Type 0 where
  pub front : (w : WorldData) → IsTree w.tree → Passes reads w → IsFront effects (state_of (did w)).effects
  pub stops : is_stop h ≡ true → (w : WorldData) → IsTree w.tree → Passes reads w → StopsSo (did w) effects h
  pub long : h ≡ halt.Spent kind.Bytes → (w : WorldData) → IsTree w.tree → Passes reads w → IsTooLong (did w) reads effects
  pub tree : h ≡ halt.Spent kind.Tree → (w : WorldData) → IsTree w.tree → Passes reads w → ⊥
