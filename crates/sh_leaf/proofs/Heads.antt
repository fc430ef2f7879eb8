-- Leaves over a base that writes.
use Rattle.std.proofs.Common.{◌≡◌, ℕ, zero, suc, ◌+◌, Bool, T, true, List, [], ◌++◌, refl, sym, ap, ◌∙◌, subst, append-nil}
use Rattle.std.specs.Prelude.{Option, Some, Result, Ok, Err, IfSome, slice_get, ◌-◌}
use native.Mathlib.Omega.{arith}
use Rattle.hs_world.specs.World.{WorldData, Applied, passed}
use Rattle.hs_world.specs.declared.effect.Effect.{Effect}
use Rattle.hs_world.specs.declared.world.Limit.{Limit}
use Rattle.hs_world.specs.declared.world.Limit.TheVariants as limit
use Rattle.hs_view.specs.Acts.{Acts, refused_by}
use Rattle.hs_view.specs.Seen.{SeenData, Shows, spent_of}
use Rattle.hs_view.specs.Steps.{Done, Halted, Whole}
use Rattle.hs_view.specs.View.{Viewed, Showed, moved_by, own, stands_by}
use Rattle.hs_view.specs.declared.halt.Halt.{Halt}
use Rattle.hs_view.specs.declared.halt.Halt.TheVariants as halt
use Rattle.hs_view.specs.declared.halt.SpentKind.{SpentKind}
use Rattle.hs_view.specs.declared.halt.SpentKind.TheVariants as kind
use Rattle.sh_syntax.specs.declared.tree.Script.{Script}
use Rattle.sh_leaf.specs.Command.{leaf_done}
use Rattle.sh_leaf.specs.Halting.{is_stop}
use Rattle.sh_leaf.specs.Head.{Asked, HeadDone, HeadHalts, leaf_under, requests_of}
use Rattle.sh_leaf.specs.State.{Answer, Got, Gave, Ran_out, begin, did, make, state_of, with_turn}
use Rattle.sh_leaf.specs.declared.fuel.Fuel.{Fuel}
use Rattle.sh_leaf.specs.declared.head.HeadRecord.{HeadRecord}
use Rattle.sh_leaf.specs.declared.outcome.Outcome.{Outcome}

-- the state that a base told was shown to a new view
shown_now : {B : Type 0} (seen : Shows B) (old new : Viewed B) (w : WorldData) → (seen.tells old.base).writes ≡ true → (seen.tells old.base).world ≡ Some w → Showed seen old new w
shown_now seen old new w writes told = record {
  under = w;
  stands = subst (λ (b : Bool). stands_by b (seen.tells old.base).world new.reads w) (sym writes) told;
  over = sym (ap (λ (b : Bool). Applied (own b old.effects) w) writes);
}

-- with a turn left
with_one : (m : WorldData → Done Outcome) (turns more : ℕ) (w : WorldData) → turns ≡ suc more → with_turn turns (λ τ. did (m τ.world) τ) (begin w turns []) ≡ did (m w) (begin w more [])
with_one m turns more w e = ap (λ (t : ℕ). with_turn t (λ τ. did (m τ.world) τ) (begin w t [])) e

one-more : (turns : ℕ) → (turns ≡ 0 → ⊥) → turns ≡ suc (turns - 1)
one-more turns has = omega (arith, has)

one-left : (turns : ℕ) → (turns ≡ 0 → ⊥) → 1 + (turns - 1) ≡ turns
one-left turns has = omega (arith, has)

-- no program was run
nothing_asked : (old new : SeenData) → new.asked ≡ old.asked → Asked old new [] []
nothing_asked old new same = record { is = same ∙ sym (append-nil old.asked); rest = []; first = refl }

-- ---- an outcome

moved_now : (writes : Bool) (es : List Effect) (o : Option WorldData) (w : WorldData) → writes ≡ true → o ≡ Some w → moved_by writes es o ≡ Some (Applied es w)
moved_now writes es o w h told = ap (λ (b : Bool). moved_by b es o) h ∙ ap (moved_by true es) told

pub head_done : {B : Type 0} (seen : Shows B) (script : Script) (number : ℕ) (fuel : Fuel) (old new : Viewed B) (outcome : Outcome) (w : WorldData)
    → (seen.tells old.base).writes ≡ true → old.effects ≡ [] → (fuel.turns ≡ 0 → ⊥) → (seen.tells old.base).world ≡ Some w
    → Acts seen (leaf_done (slice_get script.leaves number)) old new (Ok outcome)
    → HeadDone seen (leaf_under script number fuel w) fuel.turns w old.base new.base (record { effects = new.effects; outcome = outcome; turns = 1 })
head_done {B} seen script number fuel old new outcome w writes none has told acts =
    let m : WorldData → Done Outcome = leaf_done (slice_get script.leaves number) in
    let g = acts.does w (shown_now seen old new w writes told) in
    let same : new.effects ≡ (m w).effects = g.0 ∙ ap (λ (es : List Effect). es ++ (m w).effects) none in
    let more : ℕ = fuel.turns - 1 in
    let moved = acts.keeps.moved (m w).effects g.0 in
    let turned : fuel.turns ≡ suc more = one-more fuel.turns has in
    record {
      gained = [];
      state = make (m w).effects (begin w more []);
      is = with_one m fuel.turns more w turned ∙ ap (λ (o : Outcome). Gave o (make (m w).effects (begin w more []))) (sym g.1);
      effects = same;
      taken = one-left fuel.turns has;
      asked = nothing_asked (seen.tells old.base) (seen.tells new.base) acts.keeps.asked;
      world = moved.0
          ∙ moved_now (seen.tells old.base).writes (m w).effects (seen.tells old.base).world w writes told
          ∙ ap (λ (es : List Effect). Some (Applied es w)) (sym same);
      base = subst (λ (es : List Effect). seen.made es old.base new.base) (sym same) (moved.1 writes);
    }

-- ---- halts

effects_under : (m : WorldData → Done Outcome) (n : ℕ) (w : WorldData) → (n ≡ 0 → ⊥) → (state_of (with_turn n (λ τ. did (m τ.world) τ) (begin w n []))).effects ≡ (m w).effects
effects_under m zero w has = absurd (has refl)
effects_under m (suc n) w has = refl

requests_under : (m : WorldData → Done Outcome) (n : ℕ) (w : WorldData) → (state_of (with_turn n (λ τ. did (m τ.world) τ) (begin w n []))).requests ≡ []
requests_under m zero w = refl
requests_under m (suc n) w = refl

no_limit : (l : Limit) → kind.Turns ≡ spent_of l → ⊥
no_limit limit.Bytes e = cc
no_limit limit.Tree e = cc

-- no turn is left
pub head_turnless : {B : Type 0} (seen : Shows B) (script : Script) (number : ℕ) (fuel : Fuel) (base : B) (w : WorldData) → fuel.turns ≡ 0 → (seen.tells base).world ≡ Some w
    → HeadHalts seen (leaf_under script number fuel w) w base base [] (halt.Spent kind.Turns)
head_turnless seen script number fuel base w none told = record {
  gained = [];
  asked = record { is = sym (append-nil (seen.tells base).asked); rest = []; first = ap requests_of (requests_under m fuel.turns w) };
  made = [];
  made_front = record { rest = (state_of (leaf_under script number fuel w [])).effects; is = refl };
  world = told;
  base = Whole (seen.made_none base);
  front = record { rest = (state_of (leaf_under script number fuel w [])).effects; is = refl };
  stops = λ s. (
    record {
      stop = Ran_out kind.Turns;
      state = begin w fuel.turns [];
      is = ap (λ (n : ℕ). with_turn n (λ τ. did (m τ.world) τ) (begin w fuel.turns [])) none;
      halt_is = refl;
      effects_are = refl;
    },
    refl,
  );
  full = λ k e. (told, seen.made_none base);
  unfit = λ l e. let k : kind.Turns ≡ spent_of l = cc in absurd (no_limit l k);
}
  where
    m : WorldData → Done Outcome
    m = leaf_done (slice_get script.leaves number)

-- a halt of what the leaf did

same_limit : (l n : Limit) → spent_of l ≡ spent_of n → n ≡ l
same_limit limit.Bytes limit.Bytes e = refl
same_limit limit.Bytes limit.Tree e = absurd cc
same_limit limit.Tree limit.Bytes e = absurd cc
same_limit limit.Tree limit.Tree e = refl

refused_now : {B : Type 0} (seen : Shows B) (e : Effect) (v : Viewed B) (k : SpentKind) (writes : Bool) → writes ≡ true → refused_by writes seen e v k → refused_by true seen e v k
refused_now seen e v k writes h r = subst (λ (b : Bool). refused_by b seen e v k) h r

unfit_now : (o : Option WorldData) (u : WorldData) (e : Effect) (l : Limit) → o ≡ Some u → IfSome o (λ w. passed e w ≡ Some l) → passed e u ≡ Some l
unfit_now o u e l told p = subst (λ (x : Option WorldData). IfSome x (λ w. passed e w ≡ Some l)) told p

no_limit_stop : (l : Limit) (k : SpentKind) → k ≡ spent_of l → is_stop (halt.Spent k) ≡ true → ⊥
no_limit_stop limit.Bytes k e s = subst T (sym s ∙ ap (λ (x : SpentKind). is_stop (halt.Spent x)) e) tt
no_limit_stop limit.Tree k e s = subst T (sym s ∙ ap (λ (x : SpentKind). is_stop (halt.Spent x)) e) tt

no_stop_now : {B : Type 0} (seen : Shows B) (meaning : WorldData → Done Outcome) (old new : Viewed B) (h : Halt) (w : WorldData) → (seen.tells new.base).writes ≡ true → Acts seen meaning old new (Err h) → Showed seen old new w → is_stop h ≡ true → ⊥
no_stop_now seen meaning old new halt.NoMemory w writes acts s is = subst T (sym is) tt
no_stop_now seen meaning old new halt.Fault w writes acts s is = subst T (sym is) tt
no_stop_now seen meaning old new halt.Outside w writes acts s is = acts.outside refl
no_stop_now seen meaning old new halt.Trace w writes acts s is = subst T (sym is) tt
no_stop_now seen meaning old new (halt.Spent k) w writes acts s is =
    let r = acts.spent k refl w s in
    let q = refused_now seen r.next new k (seen.tells new.base).writes writes r.refused in
    no_limit_stop q.0 k q.1 is

pub head_halts : {B : Type 0} (seen : Shows B) (script : Script) (number : ℕ) (fuel : Fuel) (old new : Viewed B) (h : Halt) (w : WorldData)
    → (seen.tells old.base).writes ≡ true → old.effects ≡ [] → (fuel.turns ≡ 0 → ⊥) → (seen.tells old.base).world ≡ Some w
    → Acts seen (leaf_done (slice_get script.leaves number)) old new (Err h)
    → HeadHalts seen (leaf_under script number fuel w) w old.base new.base new.effects h
head_halts {B} seen script number fuel old new h w writes none has told acts =
    record {
      gained = [];
      asked = record { is = acts.keeps.asked ∙ sym (append-nil (seen.tells old.base).asked); rest = []; first = ap requests_of (requests_under m fuel.turns w) };
      made = halted.some;
      made_front = record { rest = halted.some_front.rest; is = effects_under m fuel.turns w has ∙ halted.some_front.is };
      world = world;
      base = (halted.world writes).1;
      front = record { rest = halted.front.rest; is = all ∙ halted.front.is };
      stops = λ s. absurd (no_stop_now seen m old new h w now acts shown s);
      full = λ k e. exact k (ap Err e);
      unfit = λ l e.
          let r = acts.spent (spent_of l) (ap Err e) w shown in
          let q = refused_now seen r.next new (spent_of l) (seen.tells new.base).writes now r.refused in
          let p : passed r.next (Applied new.effects w) ≡ Some q.0 = unfit_now (seen.tells new.base).world (Applied new.effects w) r.next q.0 (exact (spent_of l) (ap Err e)).0 q.2 in
          record {
            next = r.next;
            rest = r.rest;
            is = all ∙ r.is;
            unfit = p ∙ ap Some (same_limit l q.0 q.1);
          };
    }
  where
    m : WorldData → Done Outcome
    m = leaf_done (slice_get script.leaves number)

    shown : Showed seen old new w
    shown = shown_now seen old new w writes told

    now : (seen.tells new.base).writes ≡ true
    now = acts.keeps.writes ∙ writes

    halted : Halted seen (m w).effects old new
    halted = acts.does w shown

    world : (seen.tells new.base).world ≡ Some (Applied halted.some w)
    world = (halted.world writes).0 ∙ moved_now true halted.some (seen.tells old.base).world w refl told

    exact : (k : SpentKind) → ◌≡◌ {A = Result Outcome Halt} (Err h) (Err (halt.Spent k)) → ((seen.tells new.base).world ≡ Some (Applied new.effects w)) × seen.made new.effects old.base new.base
    exact k e =
        let moved = acts.full k e new.effects (ap (λ (es : List Effect). es ++ new.effects) (sym none)) in
        (moved.0 ∙ moved_now (seen.tells old.base).writes new.effects (seen.tells old.base).world w writes told, moved.1 writes)

    all : (state_of (leaf_under script number fuel w [])).effects ≡ old.effects ++ (m w).effects
    all = effects_under m fuel.turns w has ∙ ap (λ (es : List Effect). es ++ (m w).effects) (sym none)

-- ---- the same of what is handed back

pub done_as : {B : Type 0} (seen : Shows B) (meaning : List Answer → Got Outcome) (turns : ℕ) (w : WorldData) (a old b new : B) (r s : HeadRecord)
    → a ≡ old → b ≡ new → r ≡ s → HeadDone seen meaning turns w old new s → HeadDone seen meaning turns w a b r
done_as {B} seen meaning turns w a old b new r s ea eb er d =
    subst (λ (x : B). HeadDone seen meaning turns w x b r) (sym ea)
    (subst (λ (x : B). HeadDone seen meaning turns w old x r) (sym eb)
    (subst (λ (x : HeadRecord). HeadDone seen meaning turns w old new x) (sym er) d))

pub halts_as : {B : Type 0} (seen : Shows B) (meaning : List Answer → Got Outcome) (w : WorldData) (a old b new : B) (es fs : List Effect) (h i : Halt)
    → a ≡ old → b ≡ new → es ≡ fs → h ≡ i → HeadHalts seen meaning w old new fs i → HeadHalts seen meaning w a b es h
halts_as {B} seen meaning w a old b new es fs h i ea eb ee eh d =
    subst (λ (x : B). HeadHalts seen meaning w x b es h) (sym ea)
    (subst (λ (x : B). HeadHalts seen meaning w old x es h) (sym eb)
    (subst (λ (x : List Effect). HeadHalts seen meaning w old new x h) (sym ee)
    (subst (λ (x : Halt). HeadHalts seen meaning w old new fs x) (sym eh) d)))
