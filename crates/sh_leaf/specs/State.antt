-- The one state that a run hands on from part to part.
use Rattle.std.specs.Prelude.{ℕ, zero, suc, List, [], ◌++◌}
use Rattle.hs_world.specs.World.{WorldData, Applied}
use Rattle.hs_world.specs.declared.effect.Effect.{Effect}
use Rattle.hs_world.specs.declared.reply.Reply.{Reply}
use Rattle.hs_world.specs.declared.reply.Request.{Request}
use Rattle.hs_view.specs.Steps.{Done}
use Rattle.hs_view.specs.declared.halt.SpentKind.{SpentKind}
use Rattle.hs_view.specs.declared.halt.SpentKind.TheVariants.{Turns}

-- what came of a request for an outside program: its reply, or files past the limit of a tree
pub data Answer : Type 0 where
  Replied : Reply → Answer
  TooLarge : Answer

pub record State : Type 0 where
  pub world : WorldData
  -- the turns that are left
  pub turns : ℕ
  -- the answers to requests that are left
  pub answers : List Answer
  -- what was done
  pub effects : List Effect
  -- the requests, each with the number of effects before it
  pub requests : List (ℕ × Request)
  -- how many leaves were done whole
  pub leaves : ℕ

-- what stops a run before its end: something is used up, or no answer is left to a request
pub data Stop : Type 0 where
  Ran_out : SpentKind → Stop
  Asks : Request → Stop

-- a part of a run either comes to something, or the run stops in it
pub data Got (A : Type 0) : Type 0 where
  Gave : A → State → Got A
  Ends : Stop → State → Got A

abbrev pub begin : WorldData → ℕ → List Answer → State
begin w turns answers = record { world = w; turns = turns; answers = answers; effects = []; requests = []; leaves = 0 }

-- the state in which a part came to something, or stopped
abbrev pub state_of : {A : Type 0} → Got A → State
state_of (Gave a σ) = σ
state_of (Ends stop σ) = σ

abbrev pub onward : {A B : Type 0} → Got A → (A → State → Got B) → Got B
onward (Gave a σ) go = go a σ
onward (Ends stop σ) go = Ends stop σ

-- these effects made
abbrev pub make : List Effect → State → State
make es σ = record σ { world = Applied es σ.world; effects = σ.effects ++ es }

abbrev pub did : {A : Type 0} → Done A → State → Got A
did d σ = Gave d.answer (make d.effects σ)

-- what is done with one turn, where one is left
abbrev pub with_turn : {A : Type 0} → ℕ → (State → Got A) → State → Got A
with_turn zero go σ = Ends (Ran_out Turns) σ
with_turn (suc turns) go σ = go (record σ { turns = turns })
