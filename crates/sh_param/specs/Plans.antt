-- What is left to do of an expansion, as far as it hangs on the state of the shell and on the outputs of command substitutions.
use Rattle.std.specs.Prelude.{ℕ, Bool, List, [], ◌∷◌, ◌++◌}
use Rattle.hs_world.specs.World.{WorldData, Applied}
use Rattle.hs_world.specs.declared.effect.Effect.{Effect}
use Rattle.hs_view.specs.Steps.{Done, nothing}
use Rattle.sh_param.specs.declared.answer.Expanded.{Expanded}
use Rattle.sh_param.specs.declared.answer.Expanded.TheVariants as answer

pub data Plan : Type 0 where
  -- these are the fields
  gives : List (List (ℕ × Bool)) → Plan
  -- there are none, for this reason
  fails : List ℕ → Plan
  -- the list of this number is run first, and its output is wanted
  wants : ℕ → (List ℕ → Plan) → Plan
  -- effects, and then what follows, both as the state tells
  does : (WorldData → List Effect) → (WorldData → Plan) → Plan

-- something is done, and its answer tells what follows
abbrev pub after : {A : Type 0} → (WorldData → Done A) → (A → Plan) → Plan
after d k = does (λ w. (d w).effects) (λ w. k (d w).answer)

abbrev pub behind : {A : Type 0} → List Effect → Done A → Done A
behind es d = record { effects = es ++ d.effects; answer = d.answer }

-- ---- with the outputs of the lists

-- The fields and the effects; or why there are none, and the effects before that; or, where no output is left, the list that is wanted,
-- and the effects so far.
abbrev pub expanded_by : Plan → List (List ℕ) → WorldData → Done Expanded
expanded_by (gives fs) outs w = nothing (answer.Fields fs) w
expanded_by (fails why) outs w = nothing (answer.Error why) w
expanded_by (wants n k) [] w = nothing (answer.Wants n) w
expanded_by (wants n k) (o ∷ outs) w = expanded_by (k o) outs w
expanded_by (does es k) outs w = behind (es w) (expanded_by (k w) outs (Applied (es w) w))

-- ---- from one list to the next

-- how far it goes
pub data Reached : Type 0 where
  fields : List (List (ℕ × Bool)) → Reached
  failed : List ℕ → Reached
  stopped : ℕ → (List ℕ → Plan) → Reached

abbrev pub first : Plan → WorldData → Done Reached
first (gives fs) w = nothing (fields fs) w
first (fails why) w = nothing (failed why) w
first (wants n k) w = nothing (stopped n k) w
first (does es k) w = behind (es w) (first (k w) (Applied (es w) w))

abbrev pub told : Reached → Expanded
told (fields fs) = answer.Fields fs
told (failed why) = answer.Error why
told (stopped n k) = answer.Wants n
