-- Leaves over views, and their records.
use Rattle.std.proofs.Common.{◌≡◌, ℕ, zero, suc, ◌+◌, Bool, T, true, false, List, [], ◌++◌, refl, sym, ap, ◌∙◌, subst}
use Rattle.std.specs.Prelude.{Ok, Err, slice_get}
use native.Mathlib.Omega.{arith}
use Rattle.hs_world.specs.Reads.{ReadList, Passes}
use Rattle.hs_world.specs.World.{WorldData, Applied}
use Rattle.hs_world.specs.declared.effect.Effect.{Effect}
use Rattle.hs_overlay.specs.Overlay.{no_overlay, over_all}
use Rattle.hs_overlay.specs.Sizes.{over_passes}
use Rattle.hs_view.specs.Acts.{Acts, refused_by}
use Rattle.hs_view.specs.Known.{ends_in, routes_in}
use Rattle.hs_view.specs.Seen.{Shows}
use Rattle.hs_view.specs.Steps.{Done}
use Rattle.hs_view.specs.declared.halt.Halt.{Halt}
use Rattle.hs_view.specs.declared.halt.Halt.TheVariants as halt
use Rattle.hs_view.specs.declared.halt.SpentKind.TheVariants as kind
use Rattle.hs_view.specs.View.{IsTree, Viewed, Showed, own, stands_by}
use Rattle.sh_syntax.specs.declared.tree.Script.{Script}
use Rattle.sh_leaf.specs.Command.{leaf_done}
use Rattle.sh_leaf.specs.Do.{Do, most_frames, most_nested}
use Rattle.sh_leaf.specs.Halting.{Halts, is_stop, leaf_in}
use Rattle.sh_leaf.specs.Record.{DoneIn}
use Rattle.sh_leaf.specs.declared.fuel.Fuel.{Fuel}
use Rattle.sh_leaf.specs.State.{Ran_out, begin, did, state_of, with_turn}
use Rattle.sh_leaf.specs.declared.outcome.Outcome.{Outcome}

-- with a turn left
turned : (k turns more : ℕ) (script : Script) (w : WorldData) → turns ≡ suc more → Do script most_nested most_frames k (begin w turns []) ≡ did (leaf_done (slice_get script.leaves k) w) (begin w more [])
turned k turns more script w e = ap (λ (t : ℕ). with_turn t (λ τ. did (leaf_done (slice_get script.leaves k) τ.world) τ) (begin w t [])) e

one-more : (more : ℕ) → 1 + more ≡ suc more
one-more more = omega arith

pub done_in : (script : Script) (number : ℕ) (reads : ReadList) (effects : List Effect) (outcome : Outcome) (w : WorldData) → leaf_done (slice_get script.leaves number) w ≡ record { effects = effects; answer = outcome }
    → DoneIn (record { script = script; number = number; reads = reads; effects = effects; outcome = outcome; turns = 1 }) w
done_in script number reads effects outcome w e = λ more.
    turned number (1 + more) more script w (one-more more) ∙ ap (λ (d : Done Outcome). did d (begin w more [])) e

-- a state that passes what a new view read was shown to it
pub shown_first : {B : Type 0} (seen : Shows B) (old new : Viewed B) (w : WorldData) → (seen.tells old.base).writes ≡ false → old.effects ≡ [] → IsTree w.tree → Passes new.reads w → Showed seen old new w
shown_first seen old new w writes none tree passes = record {
  under = w;
  stands = subst (λ (b : Bool). stands_by b (seen.tells old.base).world new.reads w) (sym writes) (tree, passes);
  over = sym (ap (λ (b : Bool). Applied (own b old.effects) w) writes ∙ ap (λ (es : List Effect). Applied es w) none);
}

-- what a leaf that came to an outcome has done
pub done_first : {B : Type 0} (seen : Shows B) (meaning : WorldData → Done Outcome) (old new : Viewed B) (outcome : Outcome) (w : WorldData) → (seen.tells old.base).writes ≡ false → old.effects ≡ []
    → Acts seen meaning old new (Ok outcome) → IsTree w.tree → Passes new.reads w → meaning w ≡ record { effects = new.effects; answer = outcome }
done_first seen meaning old new outcome w writes none acts tree passes =
    let g = acts.does w (shown_first seen old new w writes none tree passes) in
    let es : (meaning w).effects ≡ new.effects = sym (g.0 ∙ ap (λ (xs : List Effect). xs ++ (meaning w).effects) none) in
    ap (λ (xs : List Effect). record { effects = xs; answer = (meaning w).answer }) es ∙ ap (λ (o : Outcome). record { effects = new.effects; answer = o }) (sym g.1)

-- ---- halts

-- no turn is left
pub halts_turnless : (script : Script) (number : ℕ) (fuel : Fuel) (reads : ReadList) (effects : List Effect) (h : Halt) → fuel.turns ≡ 0 → effects ≡ [] → h ≡ halt.Spent kind.Turns → Halts (leaf_in script number fuel) reads effects h
halts_turnless script number fuel reads effects h none nothing is = record {
  front = λ w t p. record { rest = (state_of (leaf_in script number fuel w)).effects; is = ap (λ (es : List Effect). es ++ (state_of (leaf_in script number fuel w)).effects) (sym nothing) };
  stops = λ s w t p. record {
    stop = Ran_out kind.Turns;
    state = begin w fuel.turns [];
    is = ap (λ (n : ℕ). with_turn n (λ τ. did (leaf_done (slice_get script.leaves number) τ.world) τ) (begin w fuel.turns [])) none;
    halt_is = is;
    effects_are = nothing;
  };
  long = λ e. let two : halt.Spent kind.Turns ≡ halt.Spent kind.Bytes = sym is ∙ e in absurd cc;
  tree = λ e. let two : halt.Spent kind.Turns ≡ halt.Spent kind.Tree = sym is ∙ e in absurd cc;
}

-- want of memory before anything is done
pub halts_memory : (script : Script) (number : ℕ) (fuel : Fuel) (reads : ReadList) (effects : List Effect) (h : Halt) → effects ≡ [] → h ≡ halt.NoMemory → Halts (leaf_in script number fuel) reads effects h
halts_memory script number fuel reads effects h nothing is = record {
  front = λ w t p. record { rest = (state_of (leaf_in script number fuel w)).effects; is = ap (λ (es : List Effect). es ++ (state_of (leaf_in script number fuel w)).effects) (sym nothing) };
  stops = λ s. absurd (subst T (sym s ∙ ap is_stop is) tt);
  long = λ e. let two : halt.NoMemory ≡ halt.Spent kind.Bytes = sym is ∙ e in absurd cc;
  tree = λ e. let two : halt.NoMemory ≡ halt.Spent kind.Tree = sym is ∙ e in absurd cc;
}

-- the effects of a leaf for which a turn is left
effects_with : (m : WorldData → Done Outcome) (n : ℕ) (w : WorldData) → (n ≡ 0 → ⊥) → (state_of (with_turn n (λ τ. did (m τ.world) τ) (begin w n []))).effects ≡ (m w).effects
effects_with m zero w has = absurd (has refl)
effects_with m (suc n) w has = refl

-- a halt of what the leaf did
no_stop : {B : Type 0} (seen : Shows B) (meaning : WorldData → Done Outcome) (old new : Viewed B) (h : Halt) (w : WorldData) → (seen.tells new.base).writes ≡ false → Acts seen meaning old new (Err h) → Showed seen old new w → is_stop h ≡ true → ⊥
no_stop seen meaning old new halt.NoMemory w writes acts s is = subst T (sym is) tt
no_stop seen meaning old new halt.Fault w writes acts s is = subst T (sym is) tt
no_stop seen meaning old new halt.Outside w writes acts s is = acts.outside refl
no_stop seen meaning old new halt.Trace w writes acts s is = subst T (sym is) tt
no_stop seen meaning old new (halt.Spent kind.Turns) w writes acts s is =
    let r = acts.spent kind.Turns refl w s in
    let q = subst (λ (b : Bool). refused_by b seen r.next new kind.Turns) writes r.refused in let e : kind.Turns ≡ kind.Bytes = q.0 in absurd cc
no_stop seen meaning old new (halt.Spent kind.Frames) w writes acts s is =
    let r = acts.spent kind.Frames refl w s in
    let q = subst (λ (b : Bool). refused_by b seen r.next new kind.Frames) writes r.refused in let e : kind.Frames ≡ kind.Bytes = q.0 in absurd cc
no_stop seen meaning old new (halt.Spent kind.Bytes) w writes acts s is = subst T (sym is) tt
no_stop seen meaning old new (halt.Spent kind.Tree) w writes acts s is = subst T (sym is) tt

pub halts_acts : {B : Type 0} (seen : Shows B) (script : Script) (number : ℕ) (fuel : Fuel) (old new : Viewed B) (reads : ReadList) (effects : List Effect) (h i : Halt) → (seen.tells old.base).writes ≡ false → old.effects ≡ [] → (fuel.turns ≡ 0 → ⊥)
    → reads ≡ new.reads → effects ≡ new.effects → i ≡ h → Acts seen (leaf_done (slice_get script.leaves number)) old new (Err h) → Halts (leaf_in script number fuel) reads effects i
halts_acts {B} seen script number fuel old new reads effects h i writes none has r e is acts =
    subst (λ (x : ReadList). Halts (leaf_in script number fuel) x effects i) (sym r)
    (subst (λ (x : List Effect). Halts (leaf_in script number fuel) new.reads x i) (sym e)
    (subst (λ (x : Halt). Halts (leaf_in script number fuel) new.reads new.effects x) (sym is) (record {
      front = λ w t p.
          let f = (acts.does w (shown w t p)).front in
          record { rest = f.rest; is = all w ∙ f.is };
      stops = λ s w t p. absurd (no_stop seen meaning old new h w later acts (shown w t p) s);
      long = λ k w t p.
          let q = acts.spent kind.Bytes (ap Err k) w (shown w t p) in
          let l = subst (λ (b : Bool). refused_by b seen q.next new kind.Bytes) later q.refused in
          record {
            next = q.next;
            rest = q.rest;
            is = all w ∙ q.is;
            long = ap (λ (b : Bool). over_passes q.next (over_all (own b new.effects) (no_overlay (ends_in new.reads) (routes_in new.reads)))) (sym later) ∙ l.1;
          };
      tree = λ k w t p.
          let q = acts.spent kind.Tree (ap Err k) w (shown w t p) in
          let l = subst (λ (b : Bool). refused_by b seen q.next new kind.Tree) later q.refused in let x : kind.Tree ≡ kind.Bytes = l.0 in absurd cc;
    })))
  where
    meaning : WorldData → Done Outcome
    meaning = leaf_done (slice_get script.leaves number)

    later : (seen.tells new.base).writes ≡ false
    later = acts.keeps.writes ∙ writes

    shown : (w : WorldData) → IsTree w.tree → Passes new.reads w → Showed seen old new w
    shown w t p = shown_first seen old new w writes none t p

    all : (w : WorldData) → (state_of (leaf_in script number fuel w)).effects ≡ old.effects ++ (meaning w).effects
    all w = effects_with meaning fuel.turns w has ∙ ap (λ (es : List Effect). es ++ (meaning w).effects) (sym none)
