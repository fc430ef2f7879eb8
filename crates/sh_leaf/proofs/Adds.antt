-- A run adds valid effects at the end, and its state is what they make.
use Rattle.std.proofs.Common.{◌≡◌, ℕ, zero, suc, List, [], ◌∷◌, ◌++◌, Option, refl, sym, ap, ◌∙◌, append_assoc, append-nil, subst}
use Rattle.std.specs.Prelude.{slice_get}
use Rattle.hs_world.proofs.Laws.{Applied-append}
use Rattle.hs_world.proofs.Passing.{valid_append}
use Rattle.hs_world.specs.World.{WorldData, Applied, AllValid}
use Rattle.hs_world.specs.declared.effect.Effect.{Effect}
use Rattle.hs_world.specs.declared.effect.Effect.TheVariants.{SetStatus}
use Rattle.hs_view.specs.Steps.{Done}
use Rattle.sh_syntax.specs.declared.tree.AndOr.{AndOr}
use Rattle.sh_syntax.specs.declared.tree.Pipeline.{Pipeline}
use Rattle.sh_syntax.specs.declared.tree.Script.{Script}
use Rattle.sh_leaf.proofs.Commands.{leaf_valid}
use Rattle.sh_leaf.specs.Command.{leaf_done}
use Rattle.sh_leaf.specs.Do.{Do, most_frames, most_nested}
use Rattle.sh_leaf.specs.Run.{counted, ended, list_at, run_items, run_leaf, run_list, whole_run}
use Rattle.sh_leaf.specs.State.{Answer, Got, Gave, Ends, State, begin, did, make, onward, state_of, with_turn}
use Rattle.sh_leaf.specs.declared.outcome.Outcome.{Outcome}
use Rattle.sh_leaf.specs.declared.outcome.Outcome.TheVariants.{Status, Break, Continue, Return, Exit}

-- from this state on
pub record Adds {A : Type 0} (σ : State) (got : Got A) : Type 0 where
  pub more : List Effect
  pub effects : (state_of got).effects ≡ σ.effects ++ more
  pub world : (state_of got).world ≡ Applied more σ.world
  pub valid : AllValid more σ.world

then_adds : {A B : Type 0} (σ : State) (got : Got A) (go : A → State → Got B) → Adds σ got → ((x : A) (τ : State) → Adds τ (go x τ)) → Adds σ (onward got go)
then_adds σ (Gave x τ) go a f =
    let b = f x τ in
    record {
      more = a.more ++ b.more;
      effects = b.effects ∙ ap (λ (es : List Effect). es ++ b.more) a.effects ∙ append_assoc σ.effects a.more b.more;
      world = b.world ∙ ap (Applied b.more) a.world ∙ sym (Applied-append a.more b.more σ.world);
      valid = valid_append a.more b.more σ.world a.valid (subst (AllValid b.more) a.world b.valid);
    }
then_adds σ (Ends stop τ) go a f = record { more = a.more; effects = a.effects; world = a.world; valid = a.valid }

-- ---- leaves

leaf_by : (pipeline : Option Pipeline) (turns : ℕ) (σ : State) → Adds σ (with_turn turns (λ τ. did (leaf_done pipeline τ.world) τ) σ)
leaf_by pipeline zero σ = record { more = []; effects = sym (append-nil σ.effects); world = refl; valid = tt }
leaf_by pipeline (suc turns) σ = record { more = (leaf_done pipeline σ.world).effects; effects = refl; world = refl; valid = leaf_valid pipeline σ.world }

-- Every effect of a leaf is valid where it comes.
pub do_adds : (script : Script) (nested frames k : ℕ) (σ : State) → Adds σ (Do script nested frames k σ)
do_adds script nested frames k σ = leaf_by (slice_get script.leaves k) σ.turns σ

counted_adds : (outcome : Outcome) (σ : State) → Adds σ (counted outcome σ)
counted_adds outcome σ = record { more = []; effects = sym (append-nil σ.effects); world = refl; valid = tt }

pub leaf_adds : (script : Script) (k : ℕ) (σ : State) → Adds σ (run_leaf script k σ)
leaf_adds script k σ = then_adds σ (Do script most_nested most_frames k σ) counted (do_adds script most_nested most_frames k σ) counted_adds

-- ---- lists

still : {A : Type 0} (x : A) (σ : State) → Adds σ (Gave x σ)
still x σ = record { more = []; effects = sym (append-nil σ.effects); world = refl; valid = tt }

pub items_add : (script : Script) (xs : List AndOr) (outcome : Outcome) (σ : State) → Adds σ (run_items script xs outcome σ)
items_add script [] outcome σ = still outcome σ
items_add script (x ∷ xs) (Status s) σ = then_adds σ (run_leaf script x.first σ) (run_items script xs) (leaf_adds script x.first σ) (items_add script xs)
items_add script (x ∷ xs) (Break n) σ = still (Break n) σ
items_add script (x ∷ xs) (Continue n) σ = still (Continue n) σ
items_add script (x ∷ xs) (Return s) σ = still (Return s) σ
items_add script (x ∷ xs) (Exit s) σ = still (Exit s) σ

pub list_adds : (script : Script) (xs : List AndOr) (σ : State) → Adds σ (run_list script xs σ)
list_adds script [] σ = record { more = SetStatus 0 ∷ []; effects = refl; world = refl; valid = (refl, tt) }
list_adds script (x ∷ xs) σ = items_add script (x ∷ xs) (Status 0) σ

-- ---- the whole run

state_ended : (got : Got Outcome) → (ended got).state ≡ state_of got
state_ended (Gave outcome σ) = refl
state_ended (Ends stop σ) = refl

-- The state of a run is what its effects make of the first one, and each is valid where it comes.
pub record Whole (w : WorldData) (σ : State) : Type 0 where
  pub world : σ.world ≡ Applied σ.effects w
  pub valid : AllValid σ.effects w

pub whole_adds : (script : Script) (w : WorldData) (turns : ℕ) (answers : List Answer) → Whole w (whole_run script w turns answers).state
whole_adds script w turns answers =
    let got = run_list script (list_at script 0) (begin w turns answers) in
    let a = list_adds script (list_at script 0) (begin w turns answers) in
    subst (Whole w) (sym (state_ended got)) (record {
      world = a.world ∙ ap (λ (es : List Effect). Applied es w) (sym a.effects);
      valid = subst (λ (es : List Effect). AllValid es w) (sym a.effects) a.valid;
    })

-- ---- a leaf inside a run

effects_given : {A : Type 0} (x y : A) (es fs : List Effect) (w : WorldData) (t u : ℕ) → Gave x (make es (begin w t [])) ≡ Gave y (make fs (begin w u [])) → es ≡ fs
effects_given {A} x y es fs w t u e = ap (λ (g : Got A). (state_of g).effects) e

turns_given : {A : Type 0} (x y : A) (es fs : List Effect) (w : WorldData) (t u : ℕ) → Gave x (make es (begin w t [])) ≡ Gave y (make fs (begin w u [])) → t ≡ u
turns_given {A} x y es fs w t u e = ap (λ (g : Got A). (state_of g).turns) e

abbrev answer_or : {A : Type 0} → A → Got A → A
answer_or x (Gave y σ) = y
answer_or x (Ends stop σ) = x

placed_by : (m : WorldData → Done Outcome) (turns more : ℕ) (σ : State) (outcome : Outcome) (es : List Effect)
    → with_turn turns (λ τ. did (m τ.world) τ) (begin σ.world turns []) ≡ Gave outcome (make es (begin σ.world more []))
    → with_turn turns (λ τ. did (m τ.world) τ) σ ≡ Gave outcome (make es (record σ { turns = more }))
placed_by m zero more σ outcome es e = absurd cc
placed_by m (suc t) more σ outcome es e =
    let d = m σ.world in
    let one : d.answer ≡ outcome = ap (answer_or outcome) e in
    let two : d.effects ≡ es = effects_given d.answer outcome d.effects es σ.world t more e in
    let three : t ≡ more = turns_given d.answer outcome d.effects es σ.world t more e in
    ap (λ (x : Outcome). Gave x (make d.effects (record σ { turns = t }))) one
    ∙ ap (λ (xs : List Effect). Gave outcome (make xs (record σ { turns = t }))) two
    ∙ ap (λ (n : ℕ). Gave outcome (make es (record σ { turns = n }))) three

-- What a leaf gives with nothing done before, it gives behind other effects too.
pub leaf_placed : (script : Script) (nested frames k more : ℕ) (σ : State) (outcome : Outcome) (es : List Effect)
    → Do script nested frames k (begin σ.world σ.turns []) ≡ Gave outcome (make es (begin σ.world more []))
    → Do script nested frames k σ ≡ Gave outcome (make es (record σ { turns = more }))
leaf_placed script nested frames k more σ outcome es e = placed_by (leaf_done (slice_get script.leaves k)) σ.turns more σ outcome es e
