-- The calls of an expansion, one after another.
use Rattle.std.proofs.Common.{◌≡◌, ℕ, Bool, List, [], ◌∷◌, ◌++◌, refl, sym, ap, ◌∙◌, subst, append_assoc}
use Rattle.std.specs.Prelude.{Option, Some, None, Result, Ok, Err}
use Rattle.hs_world.specs.World.{WorldData, Applied}
use Rattle.hs_world.specs.declared.effect.Effect.{Effect}
use Rattle.hs_world.proofs.Laws.{Applied-append}
use Rattle.hs_view.specs.Acts.{Acts, answering, then_by}
use Rattle.hs_view.specs.Seen.{Shows}
use Rattle.hs_view.specs.Steps.{Done, nothing}
use Rattle.hs_view.specs.View.{Viewed}
use Rattle.hs_view.specs.declared.halt.Halt.{Halt}
use Rattle.hs_view.proofs.Acting.{acts_answering, acts_answering_halt, acts_as, acts_then}
use Rattle.sh_param.specs.Plans.{Plan, Reached, behind, does, expanded_by, failed, fails, fields, first, gives, stopped, told, wants}
use Rattle.sh_param.specs.declared.answer.Expanded.{Expanded}
use Rattle.sh_param.specs.declared.answer.Expanded.TheVariants as answer
use Rattle.sh_expand.specs.Calls.{AreTogether, Calls, Expands, Last, Leaves, Reaches, Wanted}
use Rattle.sh_expand.specs.Going.{Going, ended, plan_at, waiting}

-- ---- a plan goes from one list to the next

-- what comes where it has got so far, with these outputs
abbrev pub onward : List (List ℕ) → Reached → WorldData → Done Expanded
onward outs (fields fs) w = nothing (answer.Fields fs) w
onward outs (failed why) w = nothing (answer.Error why) w
onward [] (stopped n k) w = nothing (answer.Wants n) w
onward (o ∷ outs) (stopped n k) w = expanded_by (k o) outs w

-- effects before what goes on
behind_all : (es fs : List Effect) (r : Reached) (outs : List (List ℕ)) (w : WorldData)
    → behind es (behind fs (onward outs r (Applied fs (Applied es w)))) ≡ behind (es ++ fs) (onward outs r (Applied (es ++ fs) w))
behind_all es fs r outs w =
    ap (λ (v : WorldData). behind es (behind fs (onward outs r v))) (sym (Applied-append es fs w))
    ∙ ap (λ (gs : List Effect). let d : Done Expanded = record { effects = gs; answer = (onward outs r (Applied (es ++ fs) w)).answer } in d) (sym (append_assoc es fs (onward outs r (Applied (es ++ fs) w)).effects))

pub first_onward : (p : Plan) (outs : List (List ℕ)) (w : WorldData) → expanded_by p outs w ≡ then_by (first p w) (onward outs) w
first_onward (gives fs) outs w = refl
first_onward (fails why) outs w = refl
first_onward (wants n k) [] w = refl
first_onward (wants n k) (o ∷ outs) w = refl
first_onward (does es k) outs w =
    let v = Applied (es w) w in
    let d = first (k w) v in
    ap (behind (es w)) (first_onward (k w) outs v) ∙ behind_all (es w) d.effects d.answer outs w

-- up to the first list
pub first_told : (p : Plan) (w : WorldData) → expanded_by p [] w ≡ answering told (first p w)
first_told (gives fs) w = refl
first_told (fails why) w = refl
first_told (wants n k) w = refl
first_told (does es k) w = ap (behind (es w)) (first_told (k w) (Applied (es w) w))

-- ---- calls on a view

-- the last call
pub last_call : {B : Type 0} (seen : Shows B) (p : Plan) (old new : Viewed B) (r : Result Expanded Halt) → Last seen p old new r → Acts seen (expanded_by p []) old new r
last_call {B} seen p old new (Ok e) t =
    let m = λ (w : WorldData). answering told (first p w) in
    acts_as seen m (expanded_by p []) old new (Ok e) (λ u s. sym (first_told p u))
    (subst (λ (x : Expanded). Acts seen m old new (Ok x)) t.call.is (acts_answering seen told (first p) old new t.call.reached t.call.acts))
last_call {B} seen p old new (Err h) t =
    let m = λ (w : WorldData). answering told (first p w) in
    acts_as {A = Expanded} seen m (expanded_by p []) old new (Err h) (λ u s. sym (first_told p u))
    (acts_answering_halt seen told (first p) old new h t.call.0)

-- a list that was wanted is run, and then it goes on
pub wanted_by : (r : Reached) (left : Going) (n : ℕ) → told r ≡ answer.Wants n → Leaves r left → (out : List ℕ) (outs : List (List ℕ)) → onward (out ∷ outs) r ≡ expanded_by (plan_at left (Some out)) outs
wanted_by (fields fs) left n e l out outs = absurd (cc)
wanted_by (failed why) left n e l out outs = absurd (cc)
wanted_by (stopped m k) left n e l out outs = ap (λ (g : Going). expanded_by (plan_at g (Some out)) outs) (sym l)

pub together : {B : Type 0} (seen : Shows B) → AreTogether seen
together {B} seen p [] old new r t = last_call seen p old new r t
together {B} seen p (o ∷ outs) old new r t =
    let c = t.call in
    let e = wanted_by c.reached t.left t.list c.is c.leaves o outs in
    acts_as seen (λ (w : WorldData). then_by (first p w) (onward (o ∷ outs)) w) (expanded_by p (o ∷ outs)) old new r (λ u s. sym (first_onward p (o ∷ outs) u))
    (acts_then seen (first p) (onward (o ∷ outs)) old t.mid new c.reached r c.acts
    (subst (λ (m : WorldData → Done Expanded). Acts seen m t.mid new r) (sym e) (together seen (plan_at t.left (Some o)) outs t.mid new r t.on)))
