-- One leaf of a run.
use Rattle.std.proofs.Common.{◌≡◌, ℕ, zero, suc, List, [], ◌∷◌, ◌++◌, refl, sym, ap, subst, ◌∙◌, arith}
use Rattle.std.specs.Prelude.{slice_get}
use Rattle.hs_world.specs.World.{WorldData}
use Rattle.hs_world.specs.declared.effect.Effect.{Effect}
use Rattle.hs_view.specs.Causes.{Rose}
use Rattle.hs_view.specs.Steps.{Done}
use Rattle.hs_view.specs.declared.halt.Halt.TheVariants as halt
use Rattle.hs_view.specs.declared.halt.SpentKind.{SpentKind}
use Rattle.hs_view.specs.declared.halt.SpentKind.TheVariants as kind
use Rattle.sh_syntax.specs.declared.tree.Script.{Script}
use Rattle.sh_leaf.specs.Command.{leaf_done}
use Rattle.sh_leaf.specs.Do.{Do, most_frames, most_nested}
use Rattle.sh_leaf.specs.Halting.{halt_of}
use Rattle.sh_leaf.specs.State.{State, Stop as LeafStop, Ran_out, Asks, Got, Gave, Ends, begin, make, did, with_turn}
use Rattle.sh_leaf.specs.declared.outcome.Outcome.{Outcome}
use Rattle.hs_drive.specs.declared.stop.Stop.TheVariants as stop
use Rattle.hs_drive.specs.Commit.{Streams, IsCommitted}
use Rattle.hs_drive.specs.Plain.{IsSpent, leaf_got}

-- ---- what a leaf does in a state with more behind it

abbrev pub joined : State → State → State
joined σ s = record σ { world = s.world; turns = s.turns; effects = σ.effects ++ s.effects }

abbrev pub onto : State → Got Outcome → Got Outcome
onto σ (Gave outcome s) = Gave outcome (joined σ s)
onto σ (Ends why s) = Ends why (joined σ s)

append-nil : (es : List Effect) → es ++ [] ≡ es
append-nil [] = refl
append-nil (e ∷ es) = ap (λ (xs : List Effect). e ∷ xs) (append-nil es)

abbrev pub with_one : ℕ → (WorldData → Done Outcome) → State → Got Outcome
with_one n m σ = with_turn n (λ τ. did (m τ.world) τ) σ

on-turns : (n : ℕ) (m : WorldData → Done Outcome) (σ : State) → with_one n m σ ≡ onto σ (with_one n m (begin σ.world σ.turns []))
on-turns zero m σ = ap (λ (es : List Effect). Ends (Ran_out kind.Turns) (record σ { effects = es })) (sym (append-nil σ.effects))
on-turns (suc n) m σ = refl

pub leaf-on : (script : Script) (k : ℕ) (σ : State) (w : WorldData) (turns : ℕ) → σ.world ≡ w → σ.turns ≡ turns → Do script most_nested most_frames k σ ≡ onto σ (leaf_got script k w turns)
leaf-on script k σ w turns e f =
    on-turns σ.turns (leaf_done (slice_get script.leaves k)) σ ∙ ap (λ (v : WorldData). onto σ (leaf_got script k v σ.turns)) e ∙ ap (λ (n : ℕ). onto σ (leaf_got script k w n)) f

-- ---- a leaf that came to a halt

pub spent-by : (got : Got Outcome) (w w' : WorldData) (s t : Streams) (effects : List Effect) (k : SpentKind) (why : LeafStop) (state : State) → got ≡ Ends why state → halt.Spent k ≡ halt_of why → effects ≡ state.effects
    → IsCommitted effects w w' s t → IsSpent (stop.Spent k) got w w' s t
spent-by got w w' s t effects k (Ran_out j) state e h same c = record {
  kind = j;
  state = state;
  why = let two : k ≡ j = cc in ap stop.Spent two;
  ends = e;
  committed = subst (λ (es : List Effect). IsCommitted es w w' s t) same c;
}
spent-by got w w' s t effects k (Asks request) state e h same c = let bad : halt.Spent k ≡ halt.Outside = h in absurd cc

-- ---- which halts do not come

-- without a fault no count rose
pub no-fault : Rose 0 0 → ⊥
no-fault h = omega (arith, h)

pub never-asks : (n : ℕ) (m : WorldData → Done Outcome) (w : WorldData) (why : LeafStop) (state : State) → with_one n m (begin w n []) ≡ Ends why state → halt.Outside ≡ halt_of why → ⊥
never-asks zero m w why state e h = let same : Ran_out kind.Turns ≡ why = cc in let bad : halt.Outside ≡ halt.Spent kind.Turns = h ∙ ap halt_of (sym same) in absurd cc
never-asks (suc n) m w why state e h = let bad : Gave (m w).answer (make (m w).effects (begin w n [])) ≡ Ends why state = e in absurd cc
