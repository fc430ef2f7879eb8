-- Effects put one after another.
use Rattle.std.proofs.Common.{◌≡◌, T, Bool, true, false, List, [], ◌∷◌, ◌++◌, refl, sym, ◌∙◌, subst, append-nil}
use Rattle.std.proofs.Common.{inl, inr}
use Rattle.std.specs.Prelude.{Option, Some, None, option_map, Ok, Err}
use Rattle.hs_world.specs.World.{WorldData, AllValid, Apply, Applied, is_valid}
use Rattle.hs_world.specs.declared.effect.Effect.{Effect}
use Rattle.hs_view.specs.Puts.{done_by}
use Rattle.hs_view.specs.Seen.{Shows, IsLeft}
use Rattle.hs_view.specs.Steps.{Done, Does, Halted, IsFront, Whole, Cut}
use Rattle.hs_view.specs.View.{Viewed, Keeps, Showed}
use Rattle.hs_view.specs.declared.halt.Halt.{Halt}
use Rattle.hs_view.specs.declared.halt.Halt.TheVariants as halt
use Rattle.hs_view.proofs.Keeping.{keeps_refl, keeps_then, showed_back}
use Rattle.hs_view.proofs.Steps.{does_put, front_all, front_none, front_of, halted_put, put_more}

-- ---- one effect

last_or_none : (A : Type 0) (h : Halt) (es fs : List Effect) (e : Effect) → fs ≡ done_by {A = A} (Err h) es e → IsFront fs (es ++ e ∷ [])
last_or_none A halt.NoMemory es fs e d = subst (λ (l : List Effect). IsFront l (es ++ e ∷ [])) (sym d) (front_of es (e ∷ []))
last_or_none A halt.Fault es fs e d = subst (λ (l : List Effect). IsFront l (es ++ e ∷ [])) (sym d) (front_of es (e ∷ []))
last_or_none A halt.Outside es fs e d = subst (λ (l : List Effect). IsFront l (es ++ e ∷ [])) (sym d) (front_of es (e ∷ []))
last_or_none A halt.Trace es fs e d = front_all fs (es ++ e ∷ []) d
last_or_none A (halt.Spent k) es fs e d = subst (λ (l : List Effect). IsFront l (es ++ e ∷ [])) (sym d) (front_of es (e ∷ []))

map_none : (o : Option WorldData) → o ≡ option_map (Applied []) o
map_none None = refl
map_none (Some w) = refl

map_once : (e : Effect) (o : Option WorldData) → option_map (Apply e) o ≡ option_map (Applied (e ∷ [])) o
map_once e None = refl
map_once e (Some w) = refl

halted_left : {B : Type 0} (seen : Shows B) (a b : Viewed B) (e : Effect) → IsFront b.effects (a.effects ++ e ∷ []) → IsLeft seen e a.base b.base → Halted seen (e ∷ []) a b
halted_left {B} seen a b e f (inl same) = record { front = f; some = []; some_front = front_none (e ∷ []); world = λ h. (same.0 ∙ map_none (seen.tells a.base).world, Whole same.1) }
halted_left {B} seen a b e f (inr done) = record { front = f; some = e ∷ []; some_front = front_all (e ∷ []) (e ∷ []) refl; world = λ h. (done.0 ∙ map_once e (seen.tells a.base).world, Cut [] e a.base refl (seen.made_none a.base) done.1) }

halted_by : {B : Type 0} (seen : Shows B) (a b : Viewed B) (e : Effect) (writes : Bool) → (seen.tells a.base).writes ≡ writes → IsFront b.effects (a.effects ++ e ∷ [])
    → (writes ≡ true → IsLeft seen e a.base b.base) → Halted seen (e ∷ []) a b
halted_by seen a b e true w f l = halted_left seen a b e f (l refl)
halted_by seen a b e false w f l = record { front = f; some = []; some_front = front_none (e ∷ []); world = λ h. absurd (subst T (sym h ∙ w) tt) }

-- an effect that came to a halt, by what `put` says then
pub put_halted : {B : Type 0} (A : Type 0) (seen : Shows B) (a b : Viewed B) (e : Effect) (h : Halt) → b.effects ≡ done_by {A = A} (Err h) a.effects e → ((seen.tells a.base).writes ≡ true → IsLeft seen e a.base b.base)
    → Halted seen (e ∷ []) a b
put_halted A seen a b e h d l = halted_by seen a b e (seen.tells a.base).writes refl (last_or_none A h a.effects b.effects e d) l

-- ---- several

-- These effects were put.
pub record SoFar {B : Type 0} (seen : Shows B) (start here : Viewed B) (done : List Effect) : Type 0 where
  pub keeps : Keeps {A = Unit {0}} {H = Halt} seen start here (Ok tt)
  pub effects : here.effects ≡ start.effects ++ done

pub so_far-start : {B : Type 0} (seen : Shows B) (v : Viewed B) → SoFar seen v v []
so_far-start seen v = record { keeps = keeps_refl seen v (Ok tt); effects = sym (append-nil v.effects) }

pub so_far-step : {B : Type 0} (seen : Shows B) (start here next : Viewed B) (done : List Effect) (e : Effect) → SoFar seen start here done → Keeps {A = Unit {0}} {H = Halt} seen here next (Ok tt) → next.effects ≡ here.effects ++ e ∷ []
    → SoFar seen start next (done ++ e ∷ [])
so_far-step seen start here next done e s k p = record {
  keeps = keeps_then {H = Halt} seen start here next tt (Ok tt) s.keeps k;
  effects = put_more start.effects here.effects next.effects done e s.effects p;
}

-- a halt at one of them
pub so_far-halt : {B : Type 0} (A : Type 0) (seen : Shows B) (start here next : Viewed B) (done : List Effect) (e : Effect) (rest : List Effect) (h : Halt) → SoFar seen start here done → next.effects ≡ done_by {A = A} (Err h) here.effects e
    → ((seen.tells here.base).writes ≡ true → IsLeft seen e here.base next.base) → Halted seen (done ++ (e ∷ rest)) start next
so_far-halt A seen start here next done e rest h s d l = halted_put {H = Halt} seen (done ++ (e ∷ rest)) done e rest start here next tt s.keeps s.effects (put_halted A seen here next e h d l) refl

next_valid : (done : List Effect) (e : Effect) (rest : List Effect) (w : WorldData) → AllValid (done ++ (e ∷ rest)) w → is_valid e (Applied done w) ≡ true
next_valid [] e rest w v = v.0
next_valid (d ∷ ds) e rest w v = next_valid ds e rest (Apply d w) v.1

-- the next one is valid
pub so_far-valid : {B : Type 0} (seen : Shows B) (start here : Viewed B) (done : List Effect) (e : Effect) (rest : List Effect) → SoFar seen start here done → ((u : WorldData) → Showed seen start here u → AllValid (done ++ (e ∷ rest)) u)
    → (v : WorldData) → Showed seen here here v → is_valid e v ≡ true
so_far-valid seen start here done e rest s ok v p =
    let b = showed_back {H = Halt} seen start here here tt done v s.keeps s.effects p in
    subst (λ w. is_valid e w ≡ true) (sym b.2) (next_valid done e rest b.0 (ok b.0 b.1))

-- all of them were put
pub so_far-end : {B A : Type 0} (H : Type 0) (seen : Shows B) (meaning : WorldData → Done A) (start here : Viewed B) (es : List Effect) (x : A) → SoFar seen start here es
    → ((u : WorldData) → Showed seen start here u → meaning u ≡ record { effects = es; answer = x }) → Does {H = H} seen meaning start here (Ok x)
so_far-end H seen meaning start here es x s m = does_put H seen meaning start here es x s.effects m
