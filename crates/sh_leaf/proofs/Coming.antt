-- Parts of a command that may fail, over views.
use Rattle.std.proofs.Common.{◌≡◌, ℕ, List, [], refl, sym, subst}
use Rattle.std.specs.Prelude.{Some, None, Result, Ok, Err, IsErr, IsErrAnd}
use Rattle.hs_world.specs.World.{WorldData}
use Rattle.hs_view.specs.Acts.{Acts, Loops}
use Rattle.hs_view.specs.Seen.{Shows}
use Rattle.hs_view.specs.Steps.{Done}
use Rattle.hs_view.specs.View.{Viewed}
use Rattle.hs_view.specs.declared.halt.Halt.{Halt}
use Rattle.hs_view.specs.declared.halt.Halt.TheVariants as halt
use Rattle.hs_view.proofs.Acting.{acts_answer, acts_first, acts_memory, acts_on, acts_then, loops_end, loops_step}
use Rattle.sh_syntax.specs.declared.tree.Word.{Word}
use Rattle.sh_param.specs.Words.{expand, plan_of}
use Rattle.sh_param.specs.declared.answer.Expanded.{Expanded}
use Rattle.sh_param.specs.declared.mode.Context.{Context}
use Rattle.sh_expand.specs.Calls.{AreTogether, Expands, going_of}
use Rattle.sh_expand.specs.Going.{Going, IsReady, fresh, plan_at}
use Rattle.sh_expand.specs.Sums.{sums}
use Rattle.sh_expand.specs.declared.expansion.Expansion.{Expansion}
use Rattle.sh_leaf.specs.Expanding.{Came, came_by, came_then}

-- ---- one part after another

-- behind a part that came to something
pub came_on : {B A C : Type 0} (seen : Shows B) (one : WorldData → Done (Came A)) (rest : A → WorldData → Done (Came C)) (a b c : Viewed B) (y : Came A) (x : A) (r : Result (Came C) Halt)
    → Acts seen one a b (Ok y) → y ≡ Ok x → Acts seen (rest x) b c r → Acts seen (λ w. came_then (one w) rest w) a c r
came_on {B} {A} seen one rest a b c y x r s e t = acts_then seen one (came_by rest) a b c (Ok x) r (subst (λ (z : Came A). Acts seen one a b (Ok z)) e s) t

-- a part that has a message
pub came_failed : {B A C : Type 0} (seen : Shows B) (one : WorldData → Done (Came A)) (rest : A → WorldData → Done (Came C)) (a b : Viewed B) (y : Came A) (why : List ℕ)
    → Acts seen one a b (Ok y) → y ≡ Err why → Acts seen (λ w. came_then (one w) rest w) a b (Ok (Err why))
came_failed {B} {A} seen one rest a b y why s e =
    acts_then seen one (came_by rest) a b b (Err why) (Ok (Err why)) (subst (λ (z : Came A). Acts seen one a b (Ok z)) e s) (acts_answer seen (came_by rest (Err why)) b (Err why) (λ u p. refl))

-- a halt in a part, which is handed on
pub came_halt : {B A C : Type 0} (seen : Shows B) (one : WorldData → Done (Came A)) (rest : A → WorldData → Done (Came C)) (a b : Viewed B) (h : Halt) (r : Result (Came C) Halt)
    → IsErr r → IsErrAnd r (λ i. i ≡ h) → Acts seen one a b (Err h) → Acts seen (λ w. came_then (one w) rest w) a b r
came_halt seen one rest a b h r e i t = acts_on seen (λ w. came_then (one w) rest w) a b h r e i (acts_first seen one (came_by rest) a b h t)

-- ---- one call of an expansion without command substitutions

pub is_ready : (x : Going) (words : List Word) (c : Context) (status : ℕ) → x ≡ fresh (plan_of sums words c (Some status)) → IsReady x None
is_ready x words c status e = subst (λ (g : Going). IsReady g None) (sym e) tt

pub called : {B : Type 0} (seen : Shows B) (words : List Word) (c : Context) (status : ℕ) (x y : Expansion) (old new : Viewed B) (r : Result Expanded Halt) → going_of x ≡ fresh (plan_of sums words c (Some status))
    → Expands seen (plan_at (going_of x) None) (going_of y) old new r → AreTogether seen → Acts seen (λ w. expand sums words c (Some status) [] w) old new r
called seen words c status x y old new r e t law =
    law (plan_of sums words c (Some status)) [] old new r (record { left = going_of y; call = subst (λ (g : Going). Expands seen (plan_at g None) (going_of y) old new r) e t })

-- ---- loops over parts that may fail

-- a part came to something
pub loops_came : {B A C : Type 0} (seen : Shows B) (whole : WorldData → Done (Came C)) (one : WorldData → Done (Came A)) (next : A → WorldData → Done (Came C)) (start here mid : Viewed B) (y : Came A) (x : A)
    → Loops seen whole (λ w. came_then (one w) next w) start here → Acts seen one here mid (Ok y) → y ≡ Ok x → Loops seen whole (next x) start mid
loops_came {B} {A} seen whole one next start here mid y x l t e = subst (λ (z : Came A). Loops seen whole (came_by next z) start mid) e (loops_step seen whole one (came_by next) start here mid y l t)

-- a part has a message
pub loops_failed : {B A C : Type 0} (seen : Shows B) (whole : WorldData → Done (Came C)) (one : WorldData → Done (Came A)) (next : A → WorldData → Done (Came C)) (start here mid : Viewed B) (y : Came A) (why : List ℕ)
    → Loops seen whole (λ w. came_then (one w) next w) start here → Acts seen one here mid (Ok y) → y ≡ Err why → Acts seen whole start mid (Ok (Err why))
loops_failed {B} {A} seen whole one next start here mid y why l t e =
    loops_end seen whole (came_by next (Err why)) start mid (Err why) (λ u. refl) (subst (λ (z : Came A). Loops seen whole (came_by next z) start mid) e (loops_step seen whole one (came_by next) start here mid y l t))

-- want of memory in a loop
pub loops_short : {B A : Type 0} (seen : Shows B) (whole rest : WorldData → Done A) (start here : Viewed B) (r : Result A Halt) → IsErr r → IsErrAnd r (λ i. i ≡ halt.NoMemory) → Loops seen whole rest start here
    → Acts seen whole start here r
loops_short seen whole rest start here r e i l = acts_on seen whole start here halt.NoMemory r e i (l.on here (Err halt.NoMemory) (acts_memory seen rest here))
