-- Steps of an expansion, one after another.
use Rattle.std.proofs.Common.{◌≡◌, List, ℕ, refl, sym, subst}
use Rattle.std.specs.Prelude.{Option, Some, None, Result, Ok, Err, IsErr, IsErrAnd}
use Rattle.hs_world.specs.World.{WorldData}
use Rattle.hs_view.specs.Acts.{Acts, Loops}
use Rattle.hs_view.specs.Seen.{Shows}
use Rattle.hs_view.specs.Steps.{Done}
use Rattle.hs_view.specs.View.{Viewed}
use Rattle.hs_view.specs.declared.halt.Halt.{Halt}
use Rattle.hs_view.specs.declared.halt.Halt.TheVariants as halt
use Rattle.hs_view.proofs.Acting.{acts_answer, acts_first, acts_memory, loops_start, loops_step}
use Rattle.sh_expand.specs.Moves.{Moved, Tried}
use Rattle.sh_param.specs.Plans.{Plan, after, failed, fails, first}

-- ---- what is left is what was left before

pub same_plan : {B : Type 0} (seen : Shows B) (p q : Plan) (v : Viewed B) → p ≡ q → Loops seen (first p) (first q) v v
same_plan {B} seen p q v e = subst (λ (x : Plan). Loops seen (first p) (first x) v v) e (loops_start seen (first p) v)

pub loops_then : {B : Type 0} (seen : Shows B) (p q r : Plan) (a b c : Viewed B) → Loops seen (first p) (first q) a b → Loops seen (first q) (first r) b c → Loops seen (first p) (first r) a c
loops_then seen p q r a b c l m = record { on = λ n s t. l.on n s (m.on n s t) }

-- ---- something is done, and its answer tells what follows

pub done_then : {B A : Type 0} (seen : Shows B) (d : WorldData → Done A) (k : A → Plan) (a b : Viewed B) (x : A) → Acts seen d a b (Ok x) → Loops seen (first (after d k)) (first (k x)) a b
done_then seen d k a b x t = loops_step seen (first (after d k)) d (λ y. first (k y)) a a b x (loops_start seen (first (after d k)) a) t

pub undone : {B A : Type 0} (seen : Shows B) (d : WorldData → Done A) (k : A → Plan) (a b : Viewed B) (h : Halt) → Acts seen d a b (Err h) → Acts seen (first (after d k)) a b (Err h)
undone seen d k a b h t = acts_first seen d (λ y. first (k y)) a b h t

-- the same, where what was done and what follows are known by equations
pub done_into : {B A : Type 0} (seen : Shows B) (d e : WorldData → Done A) (k : A → Plan) (q : Plan) (a b : Viewed B) (x : A) → d ≡ e → k x ≡ q → Acts seen e a b (Ok x) → Loops seen (first (after d k)) (first q) a b
done_into {B} {A} seen d e k q a b x i j t =
    subst (λ (p : Plan). Loops seen (first (after d k)) (first p) a b) j (done_then seen d k a b x (subst (λ (c : WorldData → Done A). Acts seen c a b (Ok x)) (sym i) t))

pub undone_into : {B A : Type 0} (seen : Shows B) (d e : WorldData → Done A) (k : A → Plan) (a b : Viewed B) (h : Halt) → d ≡ e → Acts seen e a b (Err h) → Acts seen (first (after d k)) a b (Err h)
undone_into {B} {A} seen d e k a b h i t = undone seen d k a b h (subst (λ (c : WorldData → Done A). Acts seen c a b (Err h)) (sym i) t)

-- ---- steps that hand a halt on

pub moved_on : {B A : Type 0} (seen : Shows B) (p q : Plan) (a b : Viewed B) (h : Halt) (r : Result A Halt) → IsErr r → IsErrAnd r (λ i. i ≡ h) → Acts seen (first p) a b (Err h) → Moved seen p q a b r
moved_on {B} seen p q a b h (Ok x) e i t = absurd i
moved_on {B} seen p q a b h (Err j) e i t = subst (λ (y : Halt). Acts seen (first p) a b (Err y)) (sym i) t

pub moved_memory : {B A : Type 0} (seen : Shows B) (p q : Plan) (v : Viewed B) (r : Result A Halt) → IsErr r → IsErrAnd r (λ i. i ≡ halt.NoMemory) → Moved seen p q v v r
moved_memory seen p q v r e i = moved_on seen p q v v halt.NoMemory r e i (acts_memory seen (first p) v)

pub moved_then : {B A : Type 0} (seen : Shows B) (p q s : Plan) (a b c : Viewed B) (r : Result A Halt) → Loops seen (first p) (first q) a b → Moved seen q s b c r → Moved seen p s a c r
moved_then {B} {A} seen p q s a b c (Ok x) l m = loops_then seen p q s a b c l m
moved_then {B} {A} seen p q s a b c (Err h) l m = l.on c (Err h) m

-- the same where there may be a message

pub tried_on : {B : Type 0} (seen : Shows B) (p q : Plan) (a b : Viewed B) (h : Halt) (r : Result (Option (List ℕ)) Halt) → IsErr r → IsErrAnd r (λ i. i ≡ h) → Acts seen (first p) a b (Err h) → Tried seen p q a b r
tried_on {B} seen p q a b h (Ok x) e i t = absurd i
tried_on {B} seen p q a b h (Err j) e i t = subst (λ (y : Halt). Acts seen (first p) a b (Err y)) (sym i) t

pub tried_then : {B : Type 0} (seen : Shows B) (p q s : Plan) (a b c : Viewed B) (r : Result (Option (List ℕ)) Halt) → Loops seen (first p) (first q) a b → Tried seen q s b c r → Tried seen p s a c r
tried_then seen p q s a b c (Ok None) l m = loops_then seen p q s a b c l m
tried_then seen p q s a b c (Ok (Some why)) l m = l.on c (Ok (failed why)) m
tried_then seen p q s a b c (Err h) l m = l.on c (Err h) m

-- a message
pub failing : {B : Type 0} (seen : Shows B) (p : Plan) (v : Viewed B) (why : List ℕ) → p ≡ fails why → Acts seen (first p) v v (Ok (failed why))
failing {B} seen p v why e = subst (λ (x : Plan). Acts seen (first x) v v (Ok (failed why))) (sym e) (acts_answer seen (first (fails why)) v (failed why) (λ u s. refl))
