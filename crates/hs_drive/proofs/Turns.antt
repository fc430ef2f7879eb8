-- A leaf that is done in its turn, on the committed state.
use Rattle.std.proofs.Common.{◌≡◌, ◌≢◌, ℕ, ◌+◌, ◌-◌, ◌≤◌, zero, suc, List, [], ◌∷◌, ◌++◌, Ok, Err, inl, inr, ◌⊎◌, refl, sym, ap, subst, ◌∙◌, append_assoc, append-nil, arith, T}
use Rattle.std.specs.Prelude.{Option, Some, Result, slice_get, ◌↔◌, true}
use Rattle.hs_world.specs.World.{WorldData, Applied, passed}
use Rattle.hs_world.specs.declared.effect.Effect.{Effect}
use Rattle.hs_world.specs.declared.effect.Effect.TheVariants.{SetStatus}
use Rattle.hs_world.specs.declared.effect.Fd.TheVariants.{One, Two}
use Rattle.hs_world.specs.declared.world.Limit.{Limit}
use Rattle.hs_world.specs.declared.world.Limit.TheVariants as limit
use Rattle.hs_world.specs.declared.world.WorldErr.{WorldErr}
use Rattle.hs_world.specs.declared.world.WorldErr.TheVariants as full
use Rattle.hs_outside.specs.Causes.{Rose}
use Rattle.hs_view.specs.Seen.{AskedData, IsLeft, spent_of}
use Rattle.hs_view.specs.Steps.{Done, Half, Whole, Cut, IsFront}
use Rattle.hs_view.specs.declared.halt.Halt.{Halt}
use Rattle.hs_view.specs.declared.halt.Halt.TheVariants as halt
use Rattle.hs_view.specs.declared.halt.SpentKind.{SpentKind}
use Rattle.hs_view.specs.declared.halt.SpentKind.TheVariants as kind
use Rattle.sh_syntax.specs.declared.tree.Script.{Script}
use Rattle.sh_leaf.specs.Command.{leaf_done}
use Rattle.sh_leaf.specs.Do.{Do, most_frames, most_nested}
use Rattle.sh_leaf.specs.Halting.{StopsSo, is_stop}
use Rattle.sh_leaf.specs.Head.{HeadDone, HeadHalts, IsUnfit, answers_in}
use Rattle.sh_leaf.specs.Run.{run_list}
use Rattle.sh_leaf.specs.State.{Answer, State, Ran_out, Got, Gave, Ends, begin, make, state_of}
use Rattle.sh_leaf.specs.declared.head.HeadRecord.{HeadRecord}
use Rattle.sh_leaf.specs.declared.outcome.Outcome.{Outcome}
use Rattle.sh_leaf.specs.declared.outcome.Outcome.TheVariants.{Status}
use Rattle.hs_drive.specs.declared.direct.Direct.{Direct}
use Rattle.hs_drive.specs.declared.run.Run.{Run}
use Rattle.hs_drive.specs.declared.stop.Stop.{Stop}
use Rattle.hs_drive.specs.declared.stop.Stop.TheVariants as stop
use Rattle.hs_drive.specs.Commit.{Streams, IsCommitted, IsFault, IsWant, IsShort, Commits}
use Rattle.hs_drive.specs.Direct.{Tells, Made, Tried, shows_direct, streams_of}
use Rattle.hs_drive.specs.Plain.{GotRuns, leaf_got, stop_of}
use Rattle.hs_drive.specs.Ran.{Ran}
use Rattle.hs_drive.proofs.Commits.{one-spent, rose-later, stops-append, stops-before}
use Rattle.hs_drive.proofs.Leaves.{never-asks, no-fault, spent-by, with_one}

-- what the leaf does under these answers
abbrev pub under : Script → ℕ → WorldData → ℕ → List Answer → Got Outcome
under script number w turns answers = Do script most_nested most_frames number (begin w turns answers)

-- ---- an outcome

turn-by : (n : ℕ) (m : WorldData → Done Outcome) (w : WorldData) (r : HeadRecord) (state : State) → with_one n m (begin w n []) ≡ Gave r.outcome state → r.effects ≡ state.effects → r.turns + state.turns ≡ n
    → with_one n m (begin w n []) ≡ Gave r.outcome (make r.effects (begin w (n - r.turns) []))
turn-by zero m w r state is e t = let bad : Ends (Ran_out kind.Turns) (begin w zero []) ≡ Gave r.outcome state = is in absurd cc
turn-by (suc n) m w r state is e t =
    let gave : Gave (m w).answer (make (m w).effects (begin w n [])) ≡ Gave r.outcome state = is in
    let same : make (m w).effects (begin w n []) ≡ state = cc in
    let answer : (m w).answer ≡ r.outcome = cc in
    let effects : (m w).effects ≡ r.effects = ap (λ (σ : State). σ.effects) same ∙ sym e in
    let more : n ≡ state.turns = ap (λ (σ : State). σ.turns) same in
    let left : n ≡ suc n - r.turns = omega (arith, t, more) in
    ap (λ (o : Outcome). Gave o (make (m w).effects (begin w n []))) answer
    ∙ ap (λ (es : List Effect). Gave r.outcome (make es (begin w n []))) effects
    ∙ ap (λ (k : ℕ). Gave r.outcome (make r.effects (begin w k []))) left

-- no program was run, so none was answered
none-gained : {O E : Type 0} (out : Tells O) (err : Tells E) (script : Script) (number turns : ℕ) (w : WorldData) (a b : Direct O E) (r : HeadRecord) (d : HeadDone (shows_direct out err) (under script number w turns) turns w a b r)
    → leaf_got script number w turns ≡ Gave r.outcome d.state
none-gained out err script number turns w a b r d =
    let none : [] ≡ d.gained = d.asked.is in
    ap (λ (g : List AskedData). under script number w turns (answers_in g)) none ∙ d.is

pub turn-within : {O E : Type 0} (out : Tells O) (err : Tells E) (script : Script) (number turns : ℕ) (w : WorldData) (a b : Direct O E) (r : HeadRecord) → HeadDone (shows_direct out err) (under script number w turns) turns w a b r → r.turns ≤ turns
turn-within out err script number turns w a b r d = omega (arith, d.taken)

-- the leaf came to an outcome
pub turn-ran : {O E : Type 0} (out : Tells O) (err : Tells E) (script : Script) (number : ℕ) (a b : Run O E) (r : HeadRecord) → HeadDone (shows_direct out err) (under script number a.base.world a.turns) a.turns a.base.world a.base b.base r
    → b.turns ≡ a.turns - r.turns → Ran out err (leaf_got script number a.base.world a.turns) a b 0 (Ok r.outcome)
turn-ran out err script number a b r d left =
    let w = a.base.world in
    let got = turn-by a.turns (leaf_done (slice_get script.leaves number)) w r d.state (none-gained out err script number a.turns w a.base b.base r d) d.effects d.taken in
    record {
      runs = record {
        state = make r.effects (begin w (a.turns - r.turns) []);
        gave = got;
        committed = d.base.committed;
        world = sym d.base.committed.world;
        turns = left;
        leaves = refl;
      };
      faults = d.base.faults;
      out_later = d.base.out_later;
      err_later = d.base.err_later;
    }

-- ---- effects of which the last one may have failed

front-all : (es : List Effect) → IsFront es es
front-all es = record { rest = []; is = sym (append-nil es) }

-- one effect that failed on the way is want of memory, as far as the streams tell
tried-wants : {O E : Type 0} (out : Tells O) (err : Tells E) (e : Effect) (a b : Direct O E) → Tried out err e a b → IsWant (e ∷ []) a.world b.world (streams_of out err a) (streams_of out err b)
tried-wants out err e a b t = by t.how
  where
    by : IsFault (Rose (out.faults a.out) (out.faults b.out)) (Rose (err.faults a.err) (err.faults b.err)) (e ∷ []) a.world b.world (streams_of out err a) (streams_of out err b)
        ⊎ ((IsShort One (e ∷ []) a.world b.world (streams_of out err a) (streams_of out err b) ⊎ IsShort Two (e ∷ []) a.world b.world (streams_of out err a) (streams_of out err b)) × (b.faults ≡ a.faults))
        → IsWant (e ∷ []) a.world b.world (streams_of out err a) (streams_of out err b)
    by (inl (inl (o, d))) = inr (inl d)
    by (inl (inr (o, d))) = inr (inr d)
    by (inr (s, f)) = inr s

pub half-wants : {O E : Type 0} (out : Tells O) (err : Tells E) (es : List Effect) (a b : Direct O E) (P Q : Type 0) → Half (shows_direct out err) es a b → Commits P Q es a.world b.world (streams_of out err a) (streams_of out err b) (Err stop.NoMemory)
half-wants out err es a b P Q (Whole m) = (es, front-all es, inl m.committed)
half-wants out err es a b P Q (Cut front last mid is m t) =
    subst (λ (xs : List Effect). Commits P Q xs a.world b.world (streams_of out err a) (streams_of out err b) (Err stop.NoMemory)) (sym is)
    (stops-append {out = P} {err = Q} {out' = P} {err' = Q} front (last ∷ []) a.world mid.world b.world (streams_of out err a) (streams_of out err mid) (streams_of out err b) stop.NoMemory (λ x. x) (λ x. x) m.committed
    (last ∷ [], front-all (last ∷ []), tried-wants out err last mid b t))

-- where a fault was counted, a stream failed
tried-faults : {O E : Type 0} (out : Tells O) (err : Tells E) (e : Effect) (a b : Direct O E) → Tried out err e a b → a.faults ≡ 0 → Rose 0 b.faults
    → IsFault (Rose (out.faults a.out) (out.faults b.out)) (Rose (err.faults a.err) (err.faults b.err)) (e ∷ []) a.world b.world (streams_of out err a) (streams_of out err b)
tried-faults out err e a b t none rose = by t.how
  where
    by : IsFault (Rose (out.faults a.out) (out.faults b.out)) (Rose (err.faults a.err) (err.faults b.err)) (e ∷ []) a.world b.world (streams_of out err a) (streams_of out err b)
        ⊎ ((IsShort One (e ∷ []) a.world b.world (streams_of out err a) (streams_of out err b) ⊎ IsShort Two (e ∷ []) a.world b.world (streams_of out err a) (streams_of out err b)) × (b.faults ≡ a.faults))
        → IsFault (Rose (out.faults a.out) (out.faults b.out)) (Rose (err.faults a.err) (err.faults b.err)) (e ∷ []) a.world b.world (streams_of out err a) (streams_of out err b)
    by (inl f) = f
    by (inr (s, f)) = absurd (no-fault (subst (λ (n : ℕ). Rose 0 n) (f ∙ none) rose))

pub half-faults : {O E : Type 0} (out : Tells O) (err : Tells E) (es : List Effect) (a b : Direct O E) → Half (shows_direct out err) es a b → a.faults ≡ 0 → Rose 0 b.faults
    → Commits (Rose (out.faults a.out) (out.faults b.out)) (Rose (err.faults a.err) (err.faults b.err)) es a.world b.world (streams_of out err a) (streams_of out err b) (Err stop.OutFault)
half-faults out err es a b (Whole m) none rose = absurd (no-fault (subst (λ (n : ℕ). Rose 0 n) (m.faults ∙ none) rose))
half-faults out err es a b (Cut front last mid is m t) none rose =
    let P = Rose (out.faults a.out) (out.faults b.out) in
    let Q = Rose (err.faults a.err) (err.faults b.err) in
    subst (λ (xs : List Effect). Commits P Q xs a.world b.world (streams_of out err a) (streams_of out err b) (Err stop.OutFault)) (sym is)
    (stops-append {out = Rose (out.faults mid.out) (out.faults b.out)} {err = Rose (err.faults mid.err) (err.faults b.err)} {out' = P} {err' = Q} front (last ∷ []) a.world mid.world b.world
    (streams_of out err a) (streams_of out err mid) (streams_of out err b) stop.OutFault (rose-later (out.faults a.out) (out.faults mid.out) (out.faults b.out) m.out_later)
    (rose-later (err.faults a.err) (err.faults mid.err) (err.faults b.err) m.err_later) m.committed
    (last ∷ [], front-all (last ∷ []), tried-faults out err last mid b t (m.faults ∙ none) rose))

pub half-later : {O E : Type 0} (out : Tells O) (err : Tells E) (es : List Effect) (a b : Direct O E) → Half (shows_direct out err) es a b → (out.faults a.out ≤ out.faults b.out) × (err.faults a.err ≤ err.faults b.err)
half-later out err es a b (Whole m) = (m.out_later, m.err_later)
half-later out err es a b (Cut front last mid is m t) = (omega (arith, m.out_later, t.out_later), omega (arith, m.err_later, t.err_later))

-- ---- a halt

-- the next effect passes a limit
limit-stops : (out err : Type 0) (got : Got Outcome) (w w' : WorldData) (s t : Streams) (effects : List Effect) (l : Limit) → IsUnfit got effects (Applied effects w) l
    → IsCommitted effects w w' s t → Commits out err (state_of got).effects w w' s t (Err (stop.Spent (spent_of l)))
limit-stops out err got w w' s t effects l u c =
    let why : Stop = stop.Spent (spent_of l) in
    let one : Commits out err (u.next ∷ []) w' w' t t (Err why) = one-spent out err u.next w' w' t l l (spent_of l) (ap (passed u.next) c.world ∙ u.unfit) refl refl refl in
    let both : Commits out err (effects ++ u.next ∷ []) w w' s t (Err why) = stops-append {out = out} {err = err} {out' = out} {err' = err} effects (u.next ∷ []) w w' w' s t t why (λ x. x) (λ x. x) c one in
    subst (λ (es : List Effect). Commits out err es w w' s t (Err why)) (append_assoc effects (u.next ∷ []) u.rest ∙ sym u.is) (stops-before out err (effects ++ u.next ∷ []) u.rest w w' s t why both)

-- What a leaf leaves that came to a halt. `got` is what it was to come to.
record Stops {O E : Type 0} (out : Tells O) (err : Tells E) (got : Got Outcome) (a b : Direct O E) (effects : List Effect) (h : Halt) : Type 0 where
  made : List Effect
  front : IsFront made (state_of got).effects
  half : Half (shows_direct out err) made a b
  stops : is_stop h ≡ true → StopsSo got effects h
  full : (k : SpentKind) → h ≡ halt.Spent k → Made out err effects a b
  unfit : (l : Limit) → h ≡ halt.Spent (spent_of l) → IsUnfit got effects (Applied effects a.world) l

from-front : (out err : Type 0) (got : Got Outcome) (w w' : WorldData) (s t : Streams) (made : List Effect) (why : Stop) → IsFront made (state_of got).effects → Commits out err made w w' s t (Err why)
    → Commits out err (state_of got).effects w w' s t (Err why)
from-front out err got w w' s t made why front c = subst (λ (es : List Effect). Commits out err es w w' s t (Err why)) (sym front.is) (stops-before out err made front.rest w w' s t why c)

halt-runs : {O E : Type 0} (out : Tells O) (err : Tells E) (got : Got Outcome) (turns head : ℕ) (a b : Direct O E) (effects : List Effect) (h : Halt) → a.faults ≡ 0 → h ≢ halt.Outside → h ≢ halt.Trace → (h ≡ halt.Fault → Rose a.faults b.faults)
    → Stops out err got a b effects h
    → GotRuns (Rose (out.faults a.out) (out.faults b.out)) (Rose (err.faults a.err) (err.faults b.err)) got a.world b.world turns head (streams_of out err a) (streams_of out err b) (Err (stop_of h))
halt-runs out err got turns head a b effects halt.NoMemory none o x f d =
    inl (from-front (Rose (out.faults a.out) (out.faults b.out)) (Rose (err.faults a.err) (err.faults b.err)) got a.world b.world (streams_of out err a) (streams_of out err b) d.made stop.NoMemory d.front (half-wants out err d.made a b (Rose (out.faults a.out) (out.faults b.out)) (Rose (err.faults a.err) (err.faults b.err)) d.half))
halt-runs out err got turns head a b effects halt.Fault none o x f d =
    inl (from-front _ _ got a.world b.world (streams_of out err a) (streams_of out err b) d.made stop.OutFault d.front (half-faults out err d.made a b d.half none (subst (λ (n : ℕ). Rose n b.faults) none (f refl))))
halt-runs out err got turns head a b effects halt.Outside none o x f d = absurd (o refl)
halt-runs out err got turns head a b effects halt.Trace none o x f d = absurd (x refl)
halt-runs out err got turns head a b effects (halt.Spent kind.Turns) none o x f d =
    let so = d.stops refl in
    inr (spent-by got a.world b.world (streams_of out err a) (streams_of out err b) effects kind.Turns so.stop so.state so.is so.halt_is so.effects_are (d.full kind.Turns refl).committed)
halt-runs out err got turns head a b effects (halt.Spent kind.Frames) none o x f d =
    let so = d.stops refl in
    inr (spent-by got a.world b.world (streams_of out err a) (streams_of out err b) effects kind.Frames so.stop so.state so.is so.halt_is so.effects_are (d.full kind.Frames refl).committed)
halt-runs out err got turns head a b effects (halt.Spent kind.Bytes) none o x f d =
    inl (limit-stops (Rose (out.faults a.out) (out.faults b.out)) (Rose (err.faults a.err) (err.faults b.err)) got a.world b.world (streams_of out err a) (streams_of out err b) effects limit.Bytes (d.unfit limit.Bytes refl) (d.full kind.Bytes refl).committed)
halt-runs out err got turns head a b effects (halt.Spent kind.Tree) none o x f d =
    inl (limit-stops (Rose (out.faults a.out) (out.faults b.out)) (Rose (err.faults a.err) (err.faults b.err)) got a.world b.world (streams_of out err a) (streams_of out err b) effects limit.Tree (d.unfit limit.Tree refl) (d.full kind.Tree refl).committed)

halt-ran : {O E : Type 0} (out : Tells O) (err : Tells E) (got : Got Outcome) (head : ℕ) (a b : Run O E) (effects : List Effect) (h : Halt) (why : Stop) → a.base.faults ≡ 0 → h ≢ halt.Outside → h ≢ halt.Trace → (h ≡ halt.Fault → Rose a.base.faults b.base.faults)
    → why ≡ stop_of h → Stops out err got a.base b.base effects h → Ran out err got a b head (Err why)
halt-ran out err got head a b effects h why none o x f is d =
    let later = half-later out err d.made a.base b.base d.half in
    subst (λ (y : Stop). Ran out err got a b head (Err y)) (sym is) (record {
      runs = halt-runs out err got b.turns head a.base b.base effects h none o x f d;
      faults = tt;
      out_later = later.0;
      err_later = later.1;
    })

stops-of : {O E : Type 0} (out : Tells O) (err : Tells E) (script : Script) (number turns : ℕ) (a b : Direct O E) (effects : List Effect) (h : Halt) → HeadHalts (shows_direct out err) (under script number a.world turns) a.world a b effects h
    → Stops out err (leaf_got script number a.world turns) a b effects h
stops-of out err script number turns a b effects h d =
    let none : d.gained ≡ [] = sym d.asked.is in
    let by : List AskedData → Got Outcome = λ (g : List AskedData). under script number a.world turns (answers_in g) in
    record {
      made = d.made;
      front = subst (λ (g : List AskedData). IsFront d.made (state_of (by g)).effects) none d.made_front;
      half = d.base;
      stops = λ s. subst (λ (g : List AskedData). StopsSo (by g) effects h) none (d.stops s).0;
      full = λ k e. (d.full k e).1;
      unfit = λ l e. subst (λ (g : List AskedData). IsUnfit (by g) effects (Applied effects a.world) l) none (d.unfit l e);
    }

pub no-asking : {O E : Type 0} (out : Tells O) (err : Tells E) (script : Script) (number turns : ℕ) (a b : Direct O E) (effects : List Effect) (h : Halt) → HeadHalts (shows_direct out err) (under script number a.world turns) a.world a b effects h → h ≢ halt.Outside
no-asking out err script number turns a b effects h d is =
    let so = (stops-of out err script number turns a b effects h d).stops (ap is_stop is) in
    never-asks turns (leaf_done (slice_get script.leaves number)) a.world so.stop so.state so.is (sym is ∙ so.halt_is)

-- the leaf came to a halt
pub turn-stopped : {O E : Type 0} (out : Tells O) (err : Tells E) (script : Script) (number : ℕ) (a b : Run O E) (effects : List Effect) (h : Halt) (why : Stop) → a.base.faults ≡ 0 → h ≢ halt.Outside → h ≢ halt.Trace
    → (h ≡ halt.Fault → Rose a.base.faults b.base.faults) → why ≡ stop_of h → HeadHalts (shows_direct out err) (under script number a.base.world a.turns) a.base.world a.base b.base effects h
    → Ran out err (leaf_got script number a.base.world a.turns) a b 0 (Err why)
turn-stopped out err script number a b effects h why none o x f is d =
    halt-ran out err (leaf_got script number a.base.world a.turns) 0 a b effects h why none o x f is (stops-of out err script number a.turns a.base b.base effects h d)

-- ---- a list without commands

pub nothing-ran : {O E : Type 0} (out : Tells O) (err : Tells E) (script : Script) (a b : Run O E) → Made out err (SetStatus 0 ∷ []) a.base b.base → b.turns ≡ a.turns → b.head ≡ 0
    → Ran out err (run_list script [] (begin a.base.world a.turns [])) a b b.head (Ok (Status 0))
nothing-ran out err script a b m turns head = record {
  runs = record {
    state = make (SetStatus 0 ∷ []) (begin a.base.world a.turns []);
    gave = refl;
    committed = m.committed;
    world = sym m.committed.world;
    turns = turns;
    leaves = head;
  };
  faults = m.faults;
  out_later = m.out_later;
  err_later = m.err_later;
}

left-half : {O E : Type 0} (out : Tells O) (err : Tells E) (e : Effect) (a b : Direct O E) → IsLeft (shows_direct out err) e a b → (es : List Effect) × IsFront es (e ∷ []) × Half (shows_direct out err) es a b
left-half out err e a b (inl (same, m)) = ([], record { rest = e ∷ []; is = refl }, Whole m)
left-half out err e a b (inr (same, t)) = (e ∷ [], front-all (e ∷ []), Cut [] e a refl ((shows_direct out err).made_none a) t)

no-stop : (h : Halt) → h ≢ halt.Outside → h ≢ halt.Spent kind.Turns → h ≢ halt.Spent kind.Frames → is_stop h ≡ true → ⊥
no-stop halt.NoMemory o t f is = subst T (sym is) tt
no-stop halt.Fault o t f is = subst T (sym is) tt
no-stop halt.Outside o t f is = o refl
no-stop halt.Trace o t f is = subst T (sym is) tt
no-stop (halt.Spent kind.Turns) o t f is = t refl
no-stop (halt.Spent kind.Frames) o t f is = f refl
no-stop (halt.Spent kind.Bytes) o t f is = subst T (sym is) tt
no-stop (halt.Spent kind.Tree) o t f is = subst T (sym is) tt

pub nothing-stopped : {O E : Type 0} (out : Tells O) (err : Tells E) (script : Script) (a b : Run O E) (h : Halt) (why : Stop) → a.base.faults ≡ 0 → IsLeft (shows_direct out err) (SetStatus 0) a.base b.base
    → ((k : SpentKind) → h ≡ halt.Spent k → Made out err [] a.base b.base) → ((l : Limit) → h ≡ halt.Spent (spent_of l) → passed (SetStatus 0) a.base.world ≡ Some l) → h ≢ halt.Spent kind.Turns → h ≢ halt.Spent kind.Frames
    → h ≢ halt.Outside → h ≢ halt.Trace → (h ≡ halt.Fault → Rose a.base.faults b.base.faults) → why ≡ stop_of h → Ran out err (run_list script [] (begin a.base.world a.turns [])) a b b.head (Err why)
nothing-stopped out err script a b h why none left full passes turns frames o x f is =
    let half = left-half out err (SetStatus 0) a.base b.base left in
    halt-ran out err (run_list script [] (begin a.base.world a.turns [])) b.head a b [] h why none o x f is (record {
      made = half.0;
      front = half.1;
      half = half.2;
      stops = λ s. absurd (no-stop h o turns frames s);
      full = full;
      unfit = λ l e. record { next = SetStatus 0; rest = []; is = refl; unfit = passes l e };
    })

-- ---- limits that a state passes

same-limit : (l n : Limit) → spent_of l ≡ spent_of n → l ≡ n
same-limit limit.Bytes limit.Bytes e = refl
same-limit limit.Bytes limit.Tree e = absurd cc
same-limit limit.Tree limit.Bytes e = absurd cc
same-limit limit.Tree limit.Tree e = refl

pub limit-iff : (l n : Limit) (k : SpentKind) (o : Option Limit) → k ≡ spent_of l → o ≡ Some l
    → (◌≡◌ {A = Result (Unit {0}) Halt} (Err (halt.Spent k)) (Err (halt.Spent (spent_of n)))) ↔ (true ≡ true) × (o ≡ Some n)
limit-iff l n k o is passes = (
  λ e. let one : halt.Spent k ≡ halt.Spent (spent_of n) = cc in let two : k ≡ spent_of n = cc in (refl, passes ∙ ap Some (same-limit l n (sym is ∙ two))),
  λ p. let one : Some l ≡ Some n = sym passes ∙ p.1 in let two : l ≡ n = cc in ap (λ (j : SpentKind). Err (halt.Spent j)) (is ∙ ap spent_of two),
)

pub memory-iff : (n : Limit) (o : Option Limit) → (o ≡ Some n → ⊥) → (◌≡◌ {A = Result (Unit {0}) Halt} (Err halt.NoMemory) (Err (halt.Spent (spent_of n)))) ↔ (true ≡ true) × (o ≡ Some n)
memory-iff n o never = (λ e. let one : halt.NoMemory ≡ halt.Spent (spent_of n) = cc in absurd cc, λ p. absurd (never p.1))

pub no-limit : (n : Limit) (r : Result (Unit {0}) WorldErr) → r ≡ Err full.NoMemory → r ≡ Err (full.Full n) → ⊥
no-limit n r a b = let one : ◌≡◌ {A = Result (Unit {0}) WorldErr} (Err full.NoMemory) (Err (full.Full n)) = sym a ∙ b in let two : full.NoMemory ≡ full.Full n = cc in cc
