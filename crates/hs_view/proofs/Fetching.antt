-- Calls that do no more than read, one after another.
use Rattle.std.proofs.Common.{◌≡◌, ℕ, ◌≤◌, ◌<◌, T, Bool, true, false, refl, sym, ap, ◌∙◌, subst, arith}
use Rattle.std.specs.Prelude.{◌≢◌, ◌↔◌, Result, Ok, Err, IfOk, IsErr, IsErrAnd}
use Rattle.hs_view.specs.Causes.{Rose}
use Rattle.hs_view.specs.Fetches.{Fetches}
use Rattle.hs_view.specs.Seen.{Shows}
use Rattle.hs_view.specs.Size.{trace_size}
use Rattle.hs_view.specs.View.{Viewed, Keeps}
use Rattle.hs_view.specs.declared.halt.Halt.{Halt}
use Rattle.hs_view.specs.declared.halt.Halt.TheVariants as halt
use Rattle.hs_view.specs.declared.halt.SpentKind.{SpentKind}
use Rattle.hs_view.proofs.Keeping.{keeps_refl, keeps_then, keeps_as, keeps_halt, rose_later}

ok_err : {A : Type 0} (x : A) (h : Halt) → ◌≡◌ {A = Result A Halt} (Ok x) (Err h) → ⊥
ok_err x h e = cc

-- a call that left all as it was, with an answer
pub fetches_none : {B A : Type 0} (seen : Shows B) (v : Viewed B) (x : A) → Fetches {A = A} seen v v (Ok x)
fetches_none {B} {A} seen v x = record {
  effects = refl;
  keeps = keeps_refl seen v (Ok x);
  fault = λ e. absurd (ok_err x halt.Fault e);
  trace = λ w l. (λ e. absurd (ok_err x halt.Trace e), λ m. absurd (omega (arith, l, m)));
  through = λ w e. ok_err x halt.Trace e;
  spent = λ k e. ok_err x (halt.Spent k) e;
  outside = λ e. ok_err x halt.Outside e;
}

-- another answer
pub fetches_ok : {B A C : Type 0} (seen : Shows B) (a b : Viewed B) (x : A) (y : C) → Fetches {A = A} seen a b (Ok x) → Fetches {A = C} seen a b (Ok y)
fetches_ok seen a b x y f = record {
  effects = f.effects;
  keeps = keeps_as seen a b x (Ok y) f.keeps;
  fault = λ e. absurd (ok_err y halt.Fault e);
  trace = λ w l. (λ e. absurd (ok_err y halt.Trace e), λ m. absurd (ok_err x halt.Trace ((f.trace w l).1 m)));
  through = λ w e. ok_err y halt.Trace e;
  spent = λ k e. ok_err y (halt.Spent k) e;
  outside = λ e. ok_err y halt.Outside e;
}

no_memory : {C : Type 0} (h : Halt) → (halt.NoMemory ≡ h → ⊥) → ◌≡◌ {A = Result C Halt} (Err halt.NoMemory) (Err h) → ⊥
no_memory h n e = n (let x : halt.NoMemory ≡ h = cc in x)

-- or want of memory in its place
pub fetches_memory : {B A C : Type 0} (seen : Shows B) (a b : Viewed B) (x : A) → Fetches {A = A} seen a b (Ok x) → Fetches {A = C} seen a b (Err halt.NoMemory)
fetches_memory {B} {A} {C} seen a b x f = record {
  effects = f.effects;
  keeps = keeps_as seen a b x (Err halt.NoMemory) f.keeps;
  fault = λ e. absurd (no_memory {C = C} halt.Fault (λ q. let z : ⊥ = cc in z) e);
  trace = λ w l. (λ e. absurd (no_memory {C = C} halt.Trace (λ q. let z : ⊥ = cc in z) e), λ m. absurd (ok_err x halt.Trace ((f.trace w l).1 m)));
  through = λ w e. no_memory {C = C} halt.Trace (λ q. let z : ⊥ = cc in z) e;
  spent = λ k e. no_memory {C = C} (halt.Spent k) (λ q. let z : ⊥ = cc in z) e;
  outside = λ e. no_memory {C = C} halt.Outside (λ q. let z : ⊥ = cc in z) e;
}

same_halt : {A C : Type 0} (h i : Halt) → ◌≡◌ {A = Result C Halt} (Err h) (Err i) → ◌≡◌ {A = Result A Halt} (Err h) (Err i)
same_halt h i e = let x : h ≡ i = cc in ap Err x

-- a halt of another call
pub fetches_halt : {B A C : Type 0} (seen : Shows B) (a b : Viewed B) (h : Halt) → Fetches {A = A} seen a b (Err h) → Fetches {A = C} seen a b (Err h)
fetches_halt {B} {A} {C} seen a b h f = record {
  effects = f.effects;
  keeps = keeps_halt {A = A} seen a b h h f.keeps;
  fault = λ e. f.fault (same_halt {A = A} h halt.Fault e);
  trace = λ w l. (λ e. (f.trace w l).0 (same_halt {A = A} h halt.Trace e), λ m. same_halt {A = C} h halt.Trace ((f.trace w l).1 m));
  through = λ w e. f.through w (same_halt {A = A} h halt.Trace e);
  spent = λ k e. f.spent k (same_halt {A = A} h (halt.Spent k) e);
  outside = λ e. f.outside (same_halt {A = A} h halt.Outside e);
}

fits : (n m : ℕ) → (m < n → ⊥) → n ≤ m
fits n m h = omega (arith, h)

-- two calls, one after the other
pub fetches_then : {B A C : Type 0} (seen : Shows B) (a b c : Viewed B) (x : A) (r : Result C Halt) → Fetches {A = A} seen a b (Ok x) → Fetches {A = C} seen b c r → Fetches {A = C} seen a c r
fetches_then {B} {A} {C} seen a b c x r f g = record {
  effects = g.effects ∙ f.effects;
  keeps = keeps_then seen a b c x r f.keeps g.keeps;
  fault = λ e. rose_later (seen.tells a.base).faults (seen.tells b.base).faults (seen.tells c.base).faults f.keeps.later (g.fault e);
  trace = λ w l. g.trace (f.keeps.writes ∙ w) (fits (trace_size b.reads b.effects) b.trace (λ m. ok_err x halt.Trace ((f.trace w l).1 m)));
  through = λ w. g.through (f.keeps.writes ∙ w);
  spent = g.spent;
  outside = g.outside;
}

-- ---- from the clauses of one call

pub fetched : {B A : Type 0} (seen : Shows B) (a b : Viewed B) (r : Result A Halt) → (seen.tells a.base).writes ≡ false → b.effects ≡ a.effects → Keeps seen a b r → (r ≡ Err halt.Fault → Rose (seen.tells a.base).faults (seen.tells b.base).faults)
    → (trace_size a.reads a.effects ≤ a.trace → (r ≡ Err halt.Trace ↔ b.trace < trace_size b.reads b.effects)) → ((k : SpentKind) → r ≢ Err (halt.Spent k)) → r ≢ Err halt.Outside → Fetches seen a b r
fetched seen a b r w e k f t s o = record {
  effects = e;
  keeps = k;
  fault = f;
  trace = λ _. t;
  through = λ n. absurd (subst T (sym n ∙ w) tt);
  spent = s;
  outside = o;
}

-- ---- halts that are handed on

halt_on : {C : Type 0} (r : Result C Halt) (h : Halt) → IsErr r → IsErrAnd r (λ i. i ≡ h) → r ≡ Err h
halt_on (Err i) h a b = ap Err b
halt_on (Ok x) h a b = absurd b

pub fetches_on : {B A C : Type 0} (seen : Shows B) (a b : Viewed B) (h : Halt) (r : Result C Halt) → Fetches {A = A} seen a b (Err h) → IsErr r → IsErrAnd r (λ i. i ≡ h) → Fetches {A = C} seen a b r
fetches_on {B} {A} {C} seen a b h r f e i = subst (λ x. Fetches {A = C} seen a b x) (sym (halt_on r h e i)) (fetches_halt {A = A} seen a b h f)

-- want of memory, where all was left as it was
pub fetches_less : {B C : Type 0} (seen : Shows B) (a b : Viewed B) (h : Halt) (r : Result C Halt) → b ≡ a → h ≡ halt.NoMemory → IsErr r → IsErrAnd r (λ i. i ≡ h) → Fetches {A = C} seen a b r
fetches_less {B} {C} seen a b h r s m e i =
    subst (λ v. Fetches {A = C} seen a v r) (sym s)
    (subst (λ x. Fetches {A = C} seen a a x) (sym (halt_on r h e i ∙ ap Err m)) (fetches_memory {A = Bool} {C = C} seen a a true (fetches_none seen a true)))

-- want of memory after a call
pub fetches_short : {B A C : Type 0} (seen : Shows B) (a b : Viewed B) (x : A) (r : Result C Halt) → Fetches {A = A} seen a b (Ok x) → IsErr r → IsErrAnd r (λ i. i ≡ halt.NoMemory) → Fetches {A = C} seen a b r
fetches_short {B} {A} {C} seen a b x r f e i = subst (λ y. Fetches {A = C} seen a b y) (sym (halt_on r halt.NoMemory e i)) (fetches_memory {A = A} {C = C} seen a b x f)

-- an answer, where all was left as it was
pub fetches_still : {B A : Type 0} (seen : Shows B) (a b : Viewed B) (x : A) → b ≡ a → Fetches {A = A} seen a b (Ok x)
fetches_still {B} {A} seen a b x s = subst (λ v. Fetches {A = A} seen a v (Ok x)) (sym s) (fetches_none seen a x)

-- a call after one that left all as it was
pub fetches_after : {B A : Type 0} (seen : Shows B) (a b c : Viewed B) (r : Result A Halt) → b ≡ a → Fetches {A = A} seen b c r → Fetches {A = A} seen a c r
fetches_after {B} {A} seen a b c r e f = subst (λ v. Fetches {A = A} seen v c r) e f

-- and one before
pub fetches_before : {B A : Type 0} (seen : Shows B) (a b c : Viewed B) (r : Result A Halt) → c ≡ b → Fetches {A = A} seen a b r → Fetches {A = A} seen a c r
fetches_before {B} {A} seen a b c r e f = subst (λ v. Fetches {A = A} seen a v r) (sym e) f

-- a last call that takes memory and nothing else
pub fetches_tail : {B A C : Type 0} (seen : Shows B) (a b c : Viewed B) (x : A) (r : Result C Halt) → Fetches {A = A} seen a b (Ok x) → c ≡ b → ((h : Halt) → r ≡ Err h → h ≡ halt.NoMemory) → Fetches {A = C} seen a c r
fetches_tail {B} {A} {C} seen a b c x (Ok y) f e m = fetches_before {A = C} seen a b c (Ok y) e (fetches_ok {A = A} {C = C} seen a b x y f)
fetches_tail {B} {A} {C} seen a b c x (Err h) f e m =
    fetches_before {A = C} seen a b c (Err h) e (subst (λ i. Fetches {A = C} seen a b (Err i)) (sym (m h refl)) (fetches_memory {A = A} {C = C} seen a b x f))

-- no facts are owed of a halt
pub if_halt : {C : Type 0} (r : Result C Halt) (P : C → Type 0) → IsErr r → IfOk r P
if_halt (Err h) P e = tt
if_halt (Ok x) P e = absurd (subst T (sym e) tt)
