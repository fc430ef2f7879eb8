-- Steps that do one part.
use Rattle.std.proofs.Common.{◌≡◌, List, ℕ, refl, sym, subst}
use Rattle.std.specs.Prelude.{Option, Some, None, Result, Ok, Err, OnOk}
use Rattle.std.specs.declared.alloc.AllocError.{AllocError}
use Rattle.hs_view.specs.Acts.{Acts}
use Rattle.hs_view.specs.Seen.{Shows}
use Rattle.hs_view.specs.View.{Viewed}
use Rattle.hs_view.specs.declared.halt.Halt.{Halt}
use Rattle.hs_view.proofs.Acting.{acts_answer, acts_memory}
use Rattle.sh_expand.specs.Moves.{Arrives, Moved, Stepped, Tried, goes_on, in_memory, told_of}
use Rattle.sh_expand.proofs.Moving.{same_plan}
use Rattle.sh_param.specs.Plans.{Plan, failed, first, stopped, wants}
use Rattle.sh_param.specs.declared.answer.Expanded.{Expanded}
use Rattle.sh_param.specs.declared.answer.Expanded.TheVariants as answer

-- ---- without a message

tried_by : {B : Type 0} (seen : Shows B) (p s : Plan) (a b : Viewed B) (r : Result (Unit {0}) Halt) → Moved seen p s a b r → Tried seen p s a b (goes_on r)
tried_by seen p s a b (Ok x) m = m
tried_by seen p s a b (Err h) m = m

-- a plan that is the same
pub tried_quietly : {B : Type 0} (seen : Shows B) (p q s : Plan) (a b : Viewed B) (r : Result (Unit {0}) Halt) (t : Result (Option (List ℕ)) Halt) → p ≡ q → t ≡ goes_on r → Moved seen q s a b r → Tried seen p s a b t
tried_quietly {B} seen p q s a b r t e i m =
    subst (λ (x : Plan). Tried seen x s a b t) (sym e) (subst (λ (x : Result (Option (List ℕ)) Halt). Tried seen q s a b x) (sym i) (tried_by seen q s a b r m))

-- ---- without an answer yet

going_by : {B : Type 0} (seen : Shows B) (p s : Plan) (later : List ℕ → Plan) (a b : Viewed B) (r : Result (Unit {0}) Halt) → Moved seen p s a b r → Stepped seen p s later a b (goes_on r)
going_by seen p s later a b (Ok x) m = m
going_by seen p s later a b (Err h) m = m

pub stepped_quietly : {B : Type 0} (seen : Shows B) (p q s : Plan) (later : List ℕ → Plan) (a b : Viewed B) (r : Result (Unit {0}) Halt) (t : Result (Option Expanded) Halt)
    → p ≡ q → t ≡ goes_on r → Moved seen q s a b r → Stepped seen p s later a b t
stepped_quietly {B} seen p q s later a b r t e i m =
    subst (λ (x : Plan). Stepped seen x s later a b t) (sym e) (subst (λ (x : Result (Option Expanded) Halt). Stepped seen q s later a b x) (sym i) (going_by seen q s later a b r m))

-- ---- where nothing but memory can be wanting

kept_by : {B : Type 0} (seen : Shows B) (p s : Plan) (later : List ℕ → Plan) (v : Viewed B) (r : Result (Unit {0}) AllocError) → OnOk r (s ≡ p) → Stepped seen p s later v v (in_memory r)
kept_by seen p s later v (Ok x) m = same_plan seen p s v (sym m)
kept_by seen p s later v (Err e) m = acts_memory seen (first p) v

pub stepped_kept : {B : Type 0} (seen : Shows B) (p q s : Plan) (later : List ℕ → Plan) (v : Viewed B) (r : Result (Unit {0}) AllocError) (t : Result (Option Expanded) Halt)
    → p ≡ q → t ≡ in_memory r → OnOk r (s ≡ q) → Stepped seen p s later v v t
stepped_kept {B} seen p q s later v r t e i m =
    subst (λ (x : Plan). Stepped seen x s later v v t) (sym e) (subst (λ (x : Result (Option Expanded) Halt). Stepped seen q s later v v x) (sym i) (kept_by seen q s later v r m))

-- ---- where there may be a message

told_by : {B : Type 0} (seen : Shows B) (p s : Plan) (later : List ℕ → Plan) (a b : Viewed B) (r : Result (Option (List ℕ)) Halt) → Tried seen p s a b r → Stepped seen p s later a b (told_of r)
told_by seen p s later a b (Ok None) m = m
told_by seen p s later a b (Ok (Some why)) m = record { reached = failed why; is = refl; acts = m; on = tt }
told_by seen p s later a b (Err h) m = m

pub stepped_told : {B : Type 0} (seen : Shows B) (p q s : Plan) (later : List ℕ → Plan) (a b : Viewed B) (r : Result (Option (List ℕ)) Halt) (t : Result (Option Expanded) Halt)
    → p ≡ q → t ≡ told_of r → Tried seen q s a b r → Stepped seen p s later a b t
stepped_told {B} seen p q s later a b r t e i m =
    subst (λ (x : Plan). Stepped seen x s later a b t) (sym e) (subst (λ (x : Result (Option Expanded) Halt). Stepped seen q s later a b x) (sym i) (told_by seen q s later a b r m))

-- ---- an output that is wanted

pub arrives_wanting : {B : Type 0} (seen : Shows B) (p : Plan) (n : ℕ) (later : List ℕ → Plan) (v : Viewed B) → p ≡ wants n later → Arrives seen p later v v (answer.Wants n)
arrives_wanting {B} seen p n later v e = record {
  reached = stopped n later;
  is = refl;
  acts = subst (λ (x : Plan). Acts seen (first x) v v (Ok (stopped n later))) (sym e) (acts_answer seen (first (wants n later)) v (stopped n later) (λ u s. refl));
  on = refl;
}

-- ---- what holds after an answer

on_memory : (A P Q : Type 0) (r : Result (Unit {0}) AllocError) → OnOk r P → (P → Q) → OnOk (in_memory {A = A} r) Q
on_memory A P Q (Ok x) p f = f p
on_memory A P Q (Err e) p f = tt

pub on_kept : {A : Type 0} (P Q : Type 0) (r : Result (Unit {0}) AllocError) (t : Result (Option A) Halt) → t ≡ in_memory r → OnOk r P → (P → Q) → OnOk t Q
on_kept {A} P Q r t i p f = subst (λ (x : Result (Option A) Halt). OnOk x Q) (sym i) (on_memory A P Q r p f)

on_message : (P Q : Type 0) (r : Result (Option (List ℕ)) Halt) → OnOk r P → (P → Q) → OnOk (told_of r) Q
on_message P Q (Ok x) p f = f p
on_message P Q (Err h) p f = tt

pub on_told : (P Q : Type 0) (r : Result (Option (List ℕ)) Halt) (t : Result (Option Expanded) Halt) → t ≡ told_of r → OnOk r P → (P → Q) → OnOk t Q
on_told P Q r t i p f = subst (λ (x : Result (Option Expanded) Halt). OnOk x Q) (sym i) (on_message P Q r p f)
