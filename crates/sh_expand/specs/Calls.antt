-- What the calls of an expansion do, one by one and all together.
use Rattle.std.specs.Prelude.{◌≡◌, ℕ, ◌<◌, Bool, List, [], ◌∷◌, Option, Some, None, Result, Ok, Err}
use Rattle.hs_world.specs.World.{WorldData}
use Rattle.hs_view.specs.Acts.{Acts}
use Rattle.hs_view.specs.Seen.{Shows}
use Rattle.hs_view.specs.View.{Viewed}
use Rattle.hs_view.specs.declared.halt.Halt.{Halt}
use Rattle.sh_param.specs.Plans.{Plan, Reached, expanded_by, failed, fields, first, stopped, told}
use Rattle.sh_param.specs.Words.{plan_of}
use Rattle.sh_param.specs.declared.answer.Expanded.{Expanded}
use Rattle.sh_param.specs.declared.answer.Expanded.TheVariants as answer
use Rattle.sh_expand.specs.Going.{Going, ended, fresh, plan_at, waiting}
use Rattle.sh_expand.specs.Rest.{waiting_of}
use Rattle.sh_expand.specs.Sums.{sums}
use Rattle.sh_expand.specs.Weights.{weight}
use Rattle.sh_expand.specs.declared.expansion.Expansion.{Expansion}
use Rattle.sh_expand.specs.declared.expansion.State.{State}
use Rattle.sh_expand.specs.declared.expansion.State.TheVariants as state
use Rattle.sh_expand.specs.declared.machine.Machine.{Machine}

-- ---- between two calls

abbrev pub state_going : State → Going
state_going (state.Fresh words c status) = fresh (plan_of sums words.now c status)
state_going (state.Waiting x) = waiting (waiting_of x)
state_going state.Ended = ended

-- what is left of an expansion
abbrev pub going_of : Expansion → Going
going_of x = state_going x.state

-- the status that `$?` gives
abbrev pub status_in : Option ℕ → WorldData → ℕ
status_in None w = w.status
status_in (Some status) w = status

-- ---- one call

-- Where it goes on, less is left than this.
abbrev pub Lessens : {A : Type 0} → Machine → ℕ → Result (Option A) Halt → Type 0
Lessens x n (Ok None) = weight x < n
Lessens x n (Ok (Some y)) = Unit {0}
Lessens x n (Err h) = Unit {0}

-- All words were expanded, and these are their fields.
abbrev pub Ends : {B : Type 0} → Shows B → Plan → Viewed B → Viewed B → Result (List (List (ℕ × Bool))) Halt → Type 0
Ends seen before old new (Ok fs) = Acts seen (first before) old new (Ok (fields fs))
Ends seen before old new (Err h) = Acts seen (first before) old new (Err h)

abbrev pub left_by : Expanded → (List ℕ → Plan) → Going
left_by (answer.Fields fs) k = ended
left_by (answer.Wants n) k = waiting k
left_by (answer.Error why) k = ended

-- Behind a list that is wanted it goes on; fields or a message end it.
abbrev pub Leaves : Reached → Going → Type 0
Leaves (fields fs) left = left ≡ ended
Leaves (failed why) left = left ≡ ended
Leaves (stopped n k) left = left ≡ waiting k

-- The next list is reached, or the end.
pub record Reaches {B : Type 0} (seen : Shows B) (before : Plan) (left : Going) (old new : Viewed B) (e : Expanded) : Type 0 where
  pub reached : Reached
  pub is : told reached ≡ e
  pub acts : Acts seen (first before) old new (Ok reached)
  pub leaves : Leaves reached left

abbrev pub Begins : {B : Type 0} → Shows B → Plan → Viewed B → Viewed B → Result (Expanded × State) Halt → Type 0
Begins seen before old new (Ok x) = Reaches seen before (state_going x.1) old new x.0
Begins seen before old new (Err h) = Acts seen (first before) old new (Err h)

-- A call does what is left up to the next list, or to the end. A halt ends the expansion.
abbrev pub Expands : {B : Type 0} → Shows B → Plan → Going → Viewed B → Viewed B → Result Expanded Halt → Type 0
Expands seen before left old new (Ok e) = Reaches seen before left old new e
Expands seen before left old new (Err h) = Acts seen (first before) old new (Err h) × (left ≡ ended)

-- ---- all calls

-- A call that wanted a list, and those behind it, of which the first has the list's output.
pub record Wanted {B : Type 0} (seen : Shows B) (before : Plan) (out : List ℕ) (rest : Plan → Viewed B → Type 0) (old : Viewed B) : Type 0 where
  pub left : Going
  pub mid : Viewed B
  pub list : ℕ
  pub call : Expands seen before left old mid (Ok (answer.Wants list))
  pub on : rest (plan_at left (Some out)) mid

pub record Last {B : Type 0} (seen : Shows B) (before : Plan) (old new : Viewed B) (result : Result Expanded Halt) : Type 0 where
  pub left : Going
  pub call : Expands seen before left old new result

-- Calls one after another on one view, with these outputs of the lists that were wanted, and the answer of the last one.
abbrev pub Calls : {B : Type 0} → Shows B → Plan → List (List ℕ) → Viewed B → Viewed B → Result Expanded Halt → Type 0
Calls seen before [] old new result = Last seen before old new result
Calls seen before (out ∷ outs) old new result = Wanted seen before out (λ later mid. Calls seen later outs mid new result) old

-- All of them together do what the plan does with these outputs.
abbrev pub AreTogether : {B : Type 0} → Shows B → Type 0
AreTogether {B} seen = (before : Plan) (outs : List (List ℕ)) (old new : Viewed B) (result : Result Expanded Halt) → Calls seen before outs old new result → Acts seen (expanded_by before outs) old new result
