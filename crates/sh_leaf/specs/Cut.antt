-- The cut of a run before the first effect that doesn't fit, and the serial meaning.
use Rattle.std.specs.Prelude.{ℕ, List, [], ◌∷◌, Option, Some, None}
use Rattle.hs_world.specs.declared.effect.Effect.{Effect}
use Rattle.hs_world.specs.declared.world.Limit.{Limit}
use Rattle.hs_world.specs.World.{WorldData, Apply, passed}
use Rattle.hs_view.specs.Seen.{spent_of}
use Rattle.sh_syntax.specs.declared.tree.Script.{Script}
use Rattle.sh_leaf.specs.State.{Answer, Ran_out}
use Rattle.sh_leaf.specs.Run.{Ending, Stopped, Final, whole_run}

abbrev pub fitting : List Effect → WorldData → List Effect
fitting [] w = []
fitting (e ∷ es) w = elim (passed e w) [ None ↦ e ∷ fitting es (Apply e w) | Some limit ↦ [] ]

-- the limit that is passed first
abbrev pub misfit : List Effect → WorldData → Option Limit
misfit [] w = None
misfit (e ∷ es) w = elim (passed e w) [ None ↦ misfit es (Apply e w) | Some limit ↦ Some limit ]

abbrev pub cut_ending : Option Limit → Ending → Ending
cut_ending None ending = ending
cut_ending (Some limit) ending = Stopped (Ran_out (spent_of limit))

-- what is seen of a run
pub record Row : Type 0 where
  pub effects : List Effect
  pub ending : Ending

abbrev pub cut : WorldData → Final → Row
cut w final = record { effects = fitting final.state.effects w; ending = cut_ending (misfit final.state.effects w) final.ending }

-- the serial meaning of a script: the commands one by one, in program order
abbrev pub Serial : Script → WorldData → ℕ → List Answer → Row
Serial script w turns answers = cut w (whole_run script w turns answers)
