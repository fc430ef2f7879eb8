-- A command's parts, one after another, in any state that the view showed.
use Rattle.std.proofs.Common.{◌≡◌, Bool, List, [], ◌∷◌, ◌++◌, refl, sym, ap, ◌∙◌, subst, append_assoc, append-nil}
use Rattle.std.specs.Prelude.{Option, Some, None, option_map, Result, Ok, Err, IsErr}
use Rattle.hs_world.specs.World.{WorldData, Applied}
use Rattle.hs_world.specs.declared.effect.Effect.{Effect}
use Rattle.hs_world.proofs.Laws.{Applied-append}
use Rattle.hs_view.specs.Seen.{Shows, Still}
use Rattle.hs_view.specs.View.{Viewed, Keeps, Showed, moved_by}
use Rattle.hs_view.specs.Steps.{Done, Does, Half, Whole, Cut, Halted, IsFront, Towards, and_then, nothing}
use Rattle.hs_view.proofs.Keeping.{showed_earlier, showed_next}

-- ---- fronts

pub front_all : (es fs : List Effect) → es ≡ fs → IsFront es fs
front_all es fs e = record { rest = []; is = sym e ∙ sym (append-nil es) }

pub front_none : (es : List Effect) → IsFront [] es
front_none es = record { rest = es; is = refl }

pub front_of : (es fs : List Effect) → IsFront es (es ++ fs)
front_of es fs = record { rest = fs; is = refl }

pub front_longer : (front es fs : List Effect) → IsFront front es → IsFront front (es ++ fs)
front_longer front es fs f = record { rest = f.rest ++ fs; is = ap (λ (l : List Effect). l ++ fs) f.is ∙ append_assoc front f.rest fs }

pub front_behind : (es front fs : List Effect) → IsFront front fs → IsFront (es ++ front) (es ++ fs)
front_behind es front fs f = record { rest = f.rest; is = ap (λ (l : List Effect). es ++ l) f.is ∙ sym (append_assoc es front f.rest) }

-- ---- halts

pub does_halt : {B A H : Type 0} (seen : Shows B) (meaning : WorldData → Done A) (old new : Viewed B) (r : Result A H) → IsErr r → ((u : WorldData) → Showed seen old new u → Halted seen (meaning u).effects old new) → Does seen meaning old new r
does_halt seen meaning old new (Ok x) e h = cc
does_halt seen meaning old new (Err x) e h = h

map_none : (o : Option WorldData) → o ≡ option_map (Applied []) o
map_none None = refl
map_none (Some w) = refl

-- a halt at which nothing was done
pub halted_none : {B : Type 0} (seen : Shows B) (whole : List Effect) (old new : Viewed B) → new.effects ≡ old.effects → Still seen old.base new.base → Halted seen whole old new
halted_none {B} seen whole old new e w = record {
  front = subst (λ (l : List Effect). IsFront l (old.effects ++ whole)) (sym e) (front_of old.effects whole);
  some = [];
  some_front = front_none whole;
  world = λ h. (w.0 ∙ map_none (seen.tells old.base).world, Whole (w.1 h));
}

-- a halt in the first part
pub halted_first : {B : Type 0} (seen : Shows B) (es fs : List Effect) (old new : Viewed B) → Halted seen es old new → Halted seen (es ++ fs) old new
halted_first {B} seen es fs old new h = record {
  front = subst (IsFront new.effects) (append_assoc old.effects es fs) (front_longer new.effects (old.effects ++ es) fs h.front);
  some = h.some;
  some_front = front_longer h.some es fs h.some_front;
  world = h.world;
}

map_then : (es fs : List Effect) (o : Option WorldData) → option_map (Applied fs) (option_map (Applied es) o) ≡ option_map (Applied (es ++ fs)) o
map_then es fs None = refl
map_then es fs (Some w) = ap Some (sym (Applied-append es fs w))

half_then : {B : Type 0} (seen : Shows B) (es fs : List Effect) (a b c : B) → seen.made es a b → Half seen fs b c → Half seen (es ++ fs) a c
half_then seen es fs a b c m (Whole n) = Whole (seen.made_then es fs a b c m n)
half_then seen es fs a b c m (Cut front last mid e n t) =
    Cut (es ++ front) last mid (ap (λ (l : List Effect). es ++ l) e ∙ sym (append_assoc es front (last ∷ []))) (seen.made_then es front a b mid m n) t

-- a halt after the first part was done
pub halted_then : {B A H : Type 0} (seen : Shows B) (es fs : List Effect) (a b c : Viewed B) (x : A) → Keeps {H = H} seen a b (Ok x) → b.effects ≡ a.effects ++ es → Halted seen fs b c → Halted seen (es ++ fs) a c
halted_then {B} seen es fs a b c x k e h = record {
  front = subst (IsFront c.effects) (append_assoc a.effects es fs) (subst (λ (l : List Effect). IsFront c.effects (l ++ fs)) e h.front);
  some = es ++ h.some;
  some_front = front_behind es h.some fs h.some_front;
  world = λ w.
      let p = h.world (k.writes ∙ w) in
      let m = k.moved es e in (
        p.0 ∙ ap (option_map (Applied h.some)) (m.0 ∙ ap (λ (t : Bool). moved_by t es (seen.tells a.base).world) w) ∙ map_then es h.some (seen.tells a.base).world,
        half_then seen es h.some a.base b.base c.base (m.1 w) p.1,
      );
}

-- ---- two calls, one after the other

pub does_first : {B A C D H : Type 0} (seen : Shows B) (join : A → C → D) (one : WorldData → Done A) (rest : WorldData → Done C) (a b : Viewed B) (h : H)
    → Does {H = H} seen one a b (Err h) → Does {H = H} seen (λ w. and_then join (one w) rest w) a b (Err h)
does_first seen join one rest a b h d u s = halted_first seen (one u).effects (rest (Applied (one u).effects u)).effects a b (d u s)

pub does_then : {B A C D H I : Type 0} (seen : Shows B) (join : A → C → D) (one : WorldData → Done A) (rest : WorldData → Done C) (a b c : Viewed B) (x : A) (y : C)
    → Does {H = H} seen one a b (Ok x) → Keeps {H = H} seen a b (Ok x) → Does {H = I} seen rest b c (Ok y) → Keeps {H = I} seen b c (Ok y)
    → Does {H = I} seen (λ w. and_then join (one w) rest w) a c (Ok (join x y))
does_then {B} {A} {C} {D} {H} {I} seen join one rest a b c x y d k f l u s =
    let g = d u (showed_earlier {H = I} seen a b c (Ok y) u l s) in
    let w : WorldData = Applied (one u).effects u in
    let r = f w (showed_next {H = H} seen a b c x (one u).effects u k g.0 s) in (
      r.0 ∙ ap (λ (es : List Effect). es ++ (rest w).effects) g.0 ∙ append_assoc a.effects (one u).effects (rest w).effects,
      λ i. join (g.1 i) (r.1 i),
    )

pub does_later : {B A C D H I : Type 0} (seen : Shows B) (join : A → C → D) (one : WorldData → Done A) (rest : WorldData → Done C) (a b c : Viewed B) (x : A) (h : I)
    → Does {H = H} seen one a b (Ok x) → Keeps {H = H} seen a b (Ok x) → Does {H = I} seen rest b c (Err h) → Keeps {A = C} {H = I} seen b c (Err h)
    → Does {A = D} {H = I} seen (λ w. and_then join (one w) rest w) a c (Err h)
does_later {B} {A} {C} {D} {H} {I} seen join one rest a b c x h d k f l u s =
    let g = d u (showed_earlier {A = C} {H = I} seen a b c (Err h) u l s) in
    let w : WorldData = Applied (one u).effects u in
    halted_then {H = H} seen (one u).effects (rest w).effects a b c x k g.0 (f w (showed_next {H = H} seen a b c x (one u).effects u k g.0 s))

-- ---- effects put one after another

-- a call that had effects, whatever the state
pub does_put : {B A : Type 0} (H : Type 0) (seen : Shows B) (meaning : WorldData → Done A) (old new : Viewed B) (es : List Effect) (x : A) → new.effects ≡ old.effects ++ es
    → ((u : WorldData) → Showed seen old new u → meaning u ≡ record { effects = es; answer = x }) → Does {H = H} seen meaning old new (Ok x)
does_put {B} {A} H seen meaning old new es x e m u s =
    (e ∙ ap (λ (d : Done A). old.effects ++ d.effects) (sym (m u s)), sym (ap (λ (d : Done A). d.answer) (m u s)))

-- a list of effects and one more behind it
pub put_more : (a b c es : List Effect) (e : Effect) → b ≡ a ++ es → c ≡ b ++ e ∷ [] → c ≡ a ++ (es ++ e ∷ [])
put_more a b c es e p q = q ∙ ap (λ (l : List Effect). l ++ e ∷ []) p ∙ append_assoc a es (e ∷ [])

-- a halt where the effects that were put come first among the meaning's
pub halted_put : {B A H : Type 0} (seen : Shows B) (whole es : List Effect) (e : Effect) (rest : List Effect) (a b c : Viewed B) (x : A) → Keeps {H = H} seen a b (Ok x) → b.effects ≡ a.effects ++ es → Halted seen (e ∷ []) b c
    → whole ≡ es ++ (e ∷ rest) → Halted seen whole a c
halted_put {B} {A} {H} seen whole es e rest a b c x k p h w =
    subst (λ (l : List Effect). Halted seen l a c) (sym w) (halted_then {H = H} seen es (e ∷ rest) a b c x k p (halted_first seen (e ∷ []) rest b c h))

-- ---- loops over parts

-- before the first part
pub towards_start : {B S A T : Type 0} (seen : Shows B) (finish : S → A → T) (total : WorldData → Done T) (rest : WorldData → Done A) (v : Viewed B) (s : S)
    → ((u : WorldData) → (rest u).effects ≡ (total u).effects) → ((u : WorldData) → finish s (rest u).answer ≡ (total u).answer) → Towards seen finish total rest v v s
towards_start seen finish total rest v s e a = record { whole = λ u p. ([], sym (append-nil v.effects), e u, a u) }

-- one part more: `add` puts its answer to that so far
pub towards_step : {B S A C D T H I : Type 0} (seen : Shows B) (finish : S → D → T) (last : S → C → T) (add : S → A → S) (join : A → C → D)
    (total : WorldData → Done T) (one : WorldData → Done A) (rest : WorldData → Done C) (start here next : Viewed B) (s : S) (z x : A)
    → ((a : A) (c : C) → last (add s a) c ≡ finish s (join a c))
    → Towards seen finish total (λ w. and_then join (one w) rest w) start here s → Keeps {H = H} seen start here (Ok z) → Keeps {H = I} seen here next (Ok x) → Does {H = I} seen one here next (Ok x)
    → Towards seen last total rest start next (add s x)
towards_step {B} {S} {A} {C} {D} {T} {H} {I} seen finish last add join total one rest start here next s z x law t j k d = record {
  whole = λ u p.
      let (done, e, f, m) = t.whole u (showed_earlier {H = I} seen start here next (Ok x) u k p) in
      let w : WorldData = Applied done u in
      let g = d w (showed_next {H = H} seen start here next z done u j e p) in
      let a : Applied (done ++ (one w).effects) u ≡ Applied (one w).effects w = Applied-append done (one w).effects u in (
        done ++ (one w).effects,
        g.0 ∙ ap (λ (es : List Effect). es ++ (one w).effects) e ∙ append_assoc start.effects done (one w).effects,
        append_assoc done (one w).effects _ ∙ ap (λ (y : WorldData). done ++ ((one w).effects ++ (rest y).effects)) a ∙ f,
        law x _ ∙ ap (λ (b : A). finish s (join b (rest (Applied (done ++ (one w).effects) u)).answer)) g.1 ∙ ap (λ (y : WorldData). finish s (join (one w).answer (rest y).answer)) a ∙ m,
      );
}

-- a halt in a part
pub towards_halt : {B S A C D T H I : Type 0} (seen : Shows B) (finish : S → D → T) (join : A → C → D)
    (total : WorldData → Done T) (one : WorldData → Done A) (rest : WorldData → Done C) (start here next : Viewed B) (s : S) (z : A) (h : I)
    → Towards seen finish total (λ w. and_then join (one w) rest w) start here s → Keeps {H = H} seen start here (Ok z) → Keeps {A = A} {H = I} seen here next (Err h) → Does {H = I} seen one here next (Err h)
    → (u : WorldData) → Showed seen start next u → Halted seen (total u).effects start next
towards_halt {B} {S} {A} {C} {D} {T} {H} {I} seen finish join total one rest start here next s z h t j k d u p =
    let (done, e, f, m) = t.whole u (showed_earlier {A = A} {H = I} seen start here next (Err h) u k p) in
    let w : WorldData = Applied done u in
    let g = d w (showed_next {H = H} seen start here next z done u j e p) in
    subst (λ (es : List Effect). Halted seen es start next) f
    (halted_then {H = H} seen done ((one w).effects ++ (rest (Applied (one w).effects w)).effects) start here next z j e
    (halted_first seen (one w).effects (rest (Applied (one w).effects w)).effects here next g))

-- no part is left
pub towards_end : {B S A T : Type 0} (H : Type 0) (seen : Shows B) (finish : S → A → T) (total : WorldData → Done T) (rest : WorldData → Done A) (start here : Viewed B) (s : S) (x : A)
    → ((w : WorldData) → rest w ≡ nothing x w) → Towards seen finish total rest start here s → Does {H = H} seen total start here (Ok (finish s x))
towards_end {B} {S} {A} {T} H seen finish total rest start here s x n t = λ u p.
    let (done, e, f, m) = t.whole u p in (
      e ∙ ap (λ (es : List Effect). start.effects ++ es) (sym (append-nil done) ∙ ap (λ (d : Done A). done ++ d.effects) (sym (n (Applied done u))) ∙ f),
      ap (λ (d : Done A). finish s d.answer) (sym (n (Applied done u))) ∙ m,
    )
