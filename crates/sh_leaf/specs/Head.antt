-- What a leaf does in its turn: over a base that puts each effect into its state at once.
use Rattle.std.specs.Prelude.{◌≡◌, ℕ, ◌+◌, List, [], ◌∷◌, ◌++◌, Some, true}
use Rattle.hs_world.specs.World.{WorldData, Applied, passed}
use Rattle.hs_world.specs.declared.effect.Effect.{Effect}
use Rattle.hs_world.specs.declared.reply.Request.{Request}
use Rattle.hs_world.specs.declared.world.Limit.{Limit}
use Rattle.hs_view.specs.Seen as seen
use Rattle.hs_view.specs.Seen.{AskedData, SeenData, Shows, spent_of}
use Rattle.hs_view.specs.Steps.{Half, IsFront}
use Rattle.hs_view.specs.declared.halt.Halt.{Halt}
use Rattle.hs_view.specs.declared.halt.Halt.TheVariants as halt
use Rattle.hs_view.specs.declared.halt.SpentKind.{SpentKind}
use Rattle.sh_syntax.specs.declared.tree.Script.{Script}
use Rattle.sh_leaf.specs.Do.{Do}
use Rattle.sh_leaf.specs.Halting.{StopsSo, is_stop}
use Rattle.sh_leaf.specs.State.{Answer, Replied, TooLarge, State, Got, Gave, begin, state_of}
use Rattle.sh_leaf.specs.declared.fuel.Fuel.{Fuel}
use Rattle.sh_leaf.specs.declared.head.HeadRecord.{HeadRecord}
use Rattle.sh_leaf.specs.declared.outcome.Outcome.{Outcome}

-- what the leaf does in this state, with so much left and under these answers
abbrev pub leaf_under : Script → ℕ → Fuel → WorldData → List Answer → Got Outcome
leaf_under script number fuel w answers = Do script fuel.nested fuel.frames number (begin w fuel.turns answers)

-- ---- runs of programs

-- A run that failed is no answer.
abbrev pub answered : seen.Answered → List Answer → List Answer
answered (seen.Replied reply) answers = Replied reply ∷ answers
answered seen.TooLarge answers = TooLarge ∷ answers
answered seen.Failed answers = answers

abbrev pub answers_in : List AskedData → List Answer
answers_in [] = []
answers_in (run ∷ runs) = answered run.answer (answers_in runs)

abbrev pub requests_in : List AskedData → List Request
requests_in [] = []
requests_in (run ∷ runs) = run.request ∷ requests_in runs

-- requests without the numbers of effects before them
abbrev pub requests_of : List (ℕ × Request) → List Request
requests_of [] = []
requests_of (r ∷ rs) = r.1 ∷ requests_of rs

-- The list of runs gained these, which are the first requests of the leaf, in order.
pub record Asked (old new : SeenData) (gained : List AskedData) (requests : List (ℕ × Request)) : Type 0 where
  pub is : new.asked ≡ old.asked ++ gained
  pub rest : List Request
  pub first : requests_of requests ≡ requests_in gained ++ rest

-- ---- what comes of it

-- The leaf came to an outcome in this state: the told state has all of its effects, in order, and so has the base.
pub record HeadDone {B : Type 0} (seen : Shows B) (meaning : List Answer → Got Outcome) (turns : ℕ) (w : WorldData) (old new : B) (r : HeadRecord) : Type 0 where
  pub gained : List AskedData
  pub state : State
  pub is : meaning (answers_in gained) ≡ Gave r.outcome state
  pub effects : r.effects ≡ state.effects
  pub taken : r.turns + state.turns ≡ turns
  pub asked : Asked (seen.tells old) (seen.tells new) gained state.requests
  pub world : (seen.tells new).world ≡ Some (Applied r.effects w)
  pub base : seen.made r.effects old new

-- Of the leaf's effects these come first, and the next one does not fit this state.
pub record IsUnfit (meaning : Got Outcome) (effects : List Effect) (w : WorldData) (l : Limit) : Type 0 where
  pub next : Effect
  pub rest : List Effect
  pub is : (state_of meaning).effects ≡ effects ++ next ∷ rest
  pub unfit : passed next w ≡ Some l

-- The leaf came to a halt in this state: the told state has its first effects, in order, and so has the base, but that the last one may
-- have failed on the way.
pub record HeadHalts {B : Type 0} (seen : Shows B) (meaning : List Answer → Got Outcome) (w : WorldData) (old new : B) (effects : List Effect) (h : Halt) : Type 0 where
  pub gained : List AskedData
  pub asked : Asked (seen.tells old) (seen.tells new) gained (state_of (meaning (answers_in gained))).requests
  pub made : List Effect
  pub made_front : IsFront made (state_of (meaning (answers_in gained))).effects
  pub world : (seen.tells new).world ≡ Some (Applied made w)
  pub base : Half seen made old new
  pub front : IsFront effects (state_of (meaning (answers_in gained))).effects
  -- The leaf itself stops, and all that it did is made.
  pub stops : is_stop h ≡ true → StopsSo (meaning (answers_in gained)) effects h × (made ≡ effects)
  -- Where a limit is passed, the told state and the base have exactly the effects that are handed back.
  pub full : (k : SpentKind) → h ≡ halt.Spent k → ((seen.tells new).world ≡ Some (Applied effects w)) × seen.made effects old new
  pub unfit : (l : Limit) → h ≡ halt.Spent (spent_of l) → IsUnfit (meaning (answers_in gained)) effects (Applied effects w) l
