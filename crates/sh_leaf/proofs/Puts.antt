-- One effect and another behind it, over views.
use Rattle.std.proofs.Common.{◌≡◌, true, List, [], ◌∷◌, ◌++◌, ℕ, refl, ap, ◌∙◌}
use Rattle.std.specs.Prelude.{Result, Ok, Err, IsErr, IsErrAnd}
use Rattle.hs_world.specs.World.{WorldData, is_valid}
use Rattle.hs_world.specs.declared.effect.Effect.{Effect}
use Rattle.hs_world.specs.declared.effect.Effect.TheVariants.{PushInput, PopInput}
use Rattle.hs_view.specs.Acts.{Acts, only, then_by}
use Rattle.hs_view.specs.Puts.{Puts}
use Rattle.hs_view.specs.Pushes.{has_push}
use Rattle.hs_view.specs.Seen.{Shows}
use Rattle.hs_view.specs.Steps.{Done}
use Rattle.hs_view.specs.View.{Viewed, Keeps, Showed}
use Rattle.hs_view.specs.declared.halt.Halt.{Halt}
use Rattle.hs_view.proofs.Acting.{acts_first, acts_on, acts_put, acts_then, acts_unput}
use Rattle.hs_view.proofs.Several.{so_far-start, so_far-step, so_far-valid}
use Rattle.hs_view.proofs.Standing.{finds_input, leaves_none}

-- ---- one effect

-- whether it was done or not
pub one_put : {B : Type 0} (seen : Shows B) (e : Effect) (a b : Viewed B) (r : Result (Unit {0}) Halt) → Puts seen a b e r → Acts seen (only e tt) a b r
one_put seen e a b (Ok x) p = acts_put seen (only e tt) a b e x x p (λ u s. refl)
one_put seen e a b (Err h) p = acts_unput seen (only e tt) a b e h p (λ u. refl)

-- ---- two

-- the first one came to a halt, which is handed on
pub two_halt : {B A : Type 0} (seen : Shows B) (e : Effect) (rest : Unit {0} → WorldData → Done A) (a b : Viewed B) (h : Halt) (r : Result A Halt) → IsErr r → IsErrAnd r (λ i. i ≡ h) → Puts {A = Unit {0}} seen a b e (Err h)
    → Acts seen (λ w. then_by (only e tt w) rest w) a b r
two_halt seen e rest a b h r x y p = acts_on seen (λ w. then_by (only e tt w) rest w) a b h r x y (acts_first seen (only e tt) rest a b h (one_put seen e a b (Err h) p))

pub two_then : {B A : Type 0} (seen : Shows B) (e : Effect) (rest : Unit {0} → WorldData → Done A) (a b c : Viewed B) (r : Result A Halt) → Puts {A = Unit {0}} seen a b e (Ok tt) → Acts seen (rest tt) b c r
    → Acts seen (λ w. then_by (only e tt w) rest w) a c r
two_then seen e rest a b c r p t = acts_then seen (only e tt) rest a b c tt r (one_put seen e a b (Ok tt) p) t

-- ---- a text in place of standard input, which is taken away

pub pop_valid : {B : Type 0} (seen : Shows B) (text : List ℕ) (a b : Viewed B) → Keeps {A = Unit {0}} {H = Halt} seen a b (Ok tt) → b.effects ≡ a.effects ++ PushInput text ∷ []
    → (u : WorldData) → Showed seen b b u → is_valid PopInput u ≡ true
pop_valid seen text a b k e =
    so_far-valid seen a b (PushInput text ∷ []) PopInput [] (so_far-step seen a a b [] (PushInput text) (so_far-start seen a) k e) (λ u s. (refl, (refl, tt)))

pub pop_pushed : (text : List ℕ) (es fs : List Effect) → fs ≡ es ++ PushInput text ∷ [] → has_push PopInput fs ≡ true
pop_pushed text es fs e = ap (has_push PopInput) e ∙ finds_input text es [] leaves_none
