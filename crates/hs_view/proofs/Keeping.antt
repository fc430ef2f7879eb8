-- What calls on a view keep, one after another, and the states that it showed.
use Rattle.std.proofs.Common.{◌≡◌, ◌≤◌, ℕ, T, Bool, true, false, List, [], ◌∷◌, ◌++◌, refl, sym, ap, ◌∙◌, subst, arith, append_assoc, append-nil}
use Rattle.std.specs.Prelude.{Option, Some, None, option_map, is_some, unwrap_or, Result, Ok, Err, OnOk}
use Rattle.hs_world.specs.Reads.{ReadList, Passes}
use Rattle.hs_world.specs.World.{WorldData, Applied}
use Rattle.hs_world.specs.declared.effect.Effect.{Effect}
use Rattle.hs_world.proofs.Laws.{Applied-append}
use Rattle.hs_world.proofs.Passing.{passes_front}
use Rattle.hs_view.specs.Causes.{Rose}
use Rattle.hs_view.specs.Seen.{Shows, Still}
use Rattle.hs_view.specs.View.{Viewed, Keeps, Grows, Moves, Showed, Stands, stands_by, moved_by, own, own_of}

-- ---- lists that grow

pub grows_refl : {A : Type 0} (xs : List A) → Grows xs xs
grows_refl xs = record { more = []; is = sym (append-nil xs) }

pub grows_trans : {A : Type 0} (xs ys zs : List A) → Grows xs ys → Grows ys zs → Grows xs zs
grows_trans {A} xs ys zs g h = record { more = g.more ++ h.more; is = h.is ∙ ap (λ (l : List A). l ++ h.more) g.is ∙ append_assoc xs g.more h.more }

pub grows_by : {A : Type 0} (xs ys more : List A) → ys ≡ xs ++ more → Grows xs ys
grows_by xs ys more e = record { more = more; is = e }

pub grows_same : {A : Type 0} (xs ys : List A) → ys ≡ xs → Grows xs ys
grows_same xs ys e = record { more = []; is = e ∙ sym (append-nil xs) }

pub cancel : {A : Type 0} (xs ys zs : List A) → xs ++ ys ≡ xs ++ zs → ys ≡ zs
cancel [] ys zs e = e
cancel (x ∷ xs) ys zs e = cancel xs ys zs (let t : xs ++ ys ≡ xs ++ zs = cc in t)

-- ---- with an answer

pub ok_map : {A H : Type 0} {P Q : Type 0} (r : Result A H) → (P → Q) → OnOk r P → OnOk r Q
ok_map (Ok x) f p = f p
ok_map (Err e) f p = p

pub ok_all : {A H : Type 0} {P : Type 0} (r : Result A H) → P → OnOk r P
ok_all (Ok x) p = p
ok_all (Err e) p = tt

-- ---- what is told

pub moved_none : (writes : Bool) (o : Option WorldData) → o ≡ moved_by writes [] o
moved_none false o = refl
moved_none true None = refl
moved_none true (Some w) = refl

moved_append : (writes : Bool) (es fs : List Effect) (o : Option WorldData) → moved_by writes fs (moved_by writes es o) ≡ moved_by writes (es ++ fs) o
moved_append false es fs o = refl
moved_append true es fs None = refl
moved_append true es fs (Some w) = ap Some (sym (Applied-append es fs w))

stands_front : (writes : Bool) (told : Option WorldData) (rs ss : ReadList) (b : WorldData) → stands_by writes told (rs ++ ss) b → stands_by writes told rs b
stands_front false told rs ss b h = (h.0, passes_front rs ss b h.1)
stands_front true told rs ss b h = h

passes_join : (rs ss : ReadList) (w : WorldData) → Passes rs w → Passes ss w → Passes (rs ++ ss) w
passes_join [] ss w p q = q
passes_join (r ∷ rs) ss w p q = (p.0, passes_join rs ss w p.1 q)

pub rose_later : (a b c : ℕ) → a ≤ b → Rose b c → Rose a c
rose_later a b c h r = omega arith

-- where nothing was done
pub moves_still : {B : Type 0} (seen : Shows B) (a b : B) (made : List Effect) → made ≡ [] → Still seen a b → Moves seen made a b
moves_still {B} seen a b made none s = (
  s.0 ∙ moved_none (seen.tells a).writes (seen.tells a).world ∙ ap (λ (l : List Effect). moved_by (seen.tells a).writes l (seen.tells a).world) (sym none),
  λ w. subst (λ (l : List Effect). seen.made l a b) (sym none) (s.1 w),
)

pub still_from : {B : Type 0} (seen : Shows B) (v : Viewed B) (base new : B) → base ≡ v.base → (seen.tells new).world ≡ (seen.tells base).world → seen.made [] base new → Still seen v.base new
still_from {B} seen v base new e w m = subst (λ (x : B). Still seen x new) e (w, λ _. m)

-- ---- what calls keep

pub keeps_refl : {B A H : Type 0} (seen : Shows B) (v : Viewed B) (r : Result A H) → Keeps seen v v r
keeps_refl {B} seen v r = record {
  trace = refl;
  writes = refl;
  runs = refl;
  asked = refl;
  later = omega arith;
  reads = grows_refl v.reads;
  effects = grows_refl v.effects;
  plain = λ n. refl;
  told = λ n w t. t;
  still = λ n. refl;
  moved = ok_all r (λ made e.
      let none : made ≡ [] = sym (cancel v.effects [] made (append-nil v.effects ∙ e)) in
      moves_still seen v.base v.base made none (refl, λ w. seen.made_none v.base));
}

-- A call that gave an answer keeps as much as one that came to a halt.
pub keeps_as : {B A H C I : Type 0} (seen : Shows B) (a b : Viewed B) (x : A) (r : Result C I) → Keeps {H = H} seen a b (Ok x) → Keeps seen a b r
keeps_as seen a b x r k = record {
  trace = k.trace;
  writes = k.writes;
  runs = k.runs;
  asked = k.asked;
  later = k.later;
  reads = k.reads;
  effects = k.effects;
  plain = k.plain;
  told = k.told;
  still = k.still;
  moved = ok_all r k.moved;
}

pub keeps_halt : {B A H C I : Type 0} (seen : Shows B) (a b : Viewed B) (h : H) (i : I) → Keeps {A = A} seen a b (Err h) → Keeps {A = C} seen a b (Err i)
keeps_halt seen a b h i k = record {
  trace = k.trace;
  writes = k.writes;
  runs = k.runs;
  asked = k.asked;
  later = k.later;
  reads = k.reads;
  effects = k.effects;
  plain = k.plain;
  told = k.told;
  still = k.still;
  moved = tt;
}

pub moved_then : {B : Type 0} (seen : Shows B) (a b c : Viewed B) → (seen.tells b.base).writes ≡ (seen.tells a.base).writes → (ab : Grows a.effects b.effects) (bc : Grows b.effects c.effects)
    → ((made : List Effect) → b.effects ≡ a.effects ++ made → Moves seen made a.base b.base)
    → ((made : List Effect) → c.effects ≡ b.effects ++ made → Moves seen made b.base c.base)
    → (made : List Effect) → c.effects ≡ a.effects ++ made → Moves seen made a.base c.base
moved_then {B} seen a b c w ab bc f g made e =
    let whole = bc.is ∙ ap (λ (es : List Effect). es ++ bc.more) ab.is ∙ append_assoc a.effects ab.more bc.more in
    let all : ab.more ++ bc.more ≡ made = cancel a.effects (ab.more ++ bc.more) made (sym whole ∙ e) in
    let p = f ab.more ab.is in
    let q = g bc.more bc.is in (
      q.0
          ∙ ap (λ (t : Bool). moved_by t bc.more (seen.tells b.base).world) w
          ∙ ap (λ (o : Option WorldData). moved_by (seen.tells a.base).writes bc.more o) p.0
          ∙ moved_append (seen.tells a.base).writes ab.more bc.more (seen.tells a.base).world
          ∙ ap (λ (l : List Effect). moved_by (seen.tells a.base).writes l (seen.tells a.base).world) all,
      λ h. subst (λ (l : List Effect). seen.made l a.base c.base) all (seen.made_then ab.more bc.more a.base b.base c.base (p.1 h) (q.1 (w ∙ h))),
    )

-- two calls, one after the other
pub keeps_then : {B A H C I : Type 0} (seen : Shows B) (a b c : Viewed B) (x : A) (r : Result C I) → Keeps {H = H} seen a b (Ok x) → Keeps seen b c r → Keeps seen a c r
keeps_then {B} seen a b c x r k l = record {
  trace = l.trace ∙ k.trace;
  writes = l.writes ∙ k.writes;
  runs = l.runs ∙ k.runs;
  asked = l.asked ∙ k.asked;
  later = omega (arith, k.later, l.later);
  reads = grows_trans a.reads b.reads c.reads k.reads l.reads;
  effects = grows_trans a.effects b.effects c.effects k.effects l.effects;
  plain = λ n. l.plain (k.writes ∙ n) ∙ k.plain n;
  told = λ n w t. l.told (k.writes ∙ n) w (k.told n w t);
  still = λ n. l.still (k.writes ∙ n) ∙ k.still n;
  moved = ok_map r (moved_then seen a b c k.writes k.effects l.effects k.moved) l.moved;
}

-- a call that only read, or changed nothing but the count of faults
pub keeps_read : {B A H : Type 0} (seen : Shows B) (v u : Viewed B) (r : Result A H) (more : ReadList) → u.reads ≡ v.reads ++ more → u.effects ≡ v.effects → u.trace ≡ v.trace
    → (seen.tells u.base).writes ≡ (seen.tells v.base).writes → (seen.tells u.base).runs ≡ (seen.tells v.base).runs → (seen.tells u.base).asked ≡ (seen.tells v.base).asked → Still seen v.base u.base
    → ((seen.tells v.base).writes ≡ true → more ≡ []) → ((w : WorldData) → (seen.tells v.base).world ≡ Some w → Passes more w) → (seen.tells v.base).faults ≤ (seen.tells u.base).faults → Keeps seen v u r
keeps_read {B} seen v u r more rs es t writes runs asked world plain told later = record {
  trace = t;
  writes = writes;
  runs = runs;
  asked = asked;
  later = later;
  reads = grows_by v.reads u.reads more rs;
  effects = grows_same v.effects u.effects es;
  plain = λ n. rs ∙ ap (λ (l : ReadList). v.reads ++ l) (plain n) ∙ append-nil v.reads;
  told = λ n w h. (world.0 ∙ h.0, subst (λ (l : ReadList). Passes l w) (sym rs) (passes_join v.reads more w h.1 (told w h.0)));
  still = λ n. world.0;
  moved = ok_all r (λ made e.
      let none : made ≡ [] = sym (cancel v.effects [] made (append-nil v.effects ∙ sym es ∙ e)) in
      moves_still seen v.base u.base made none world);
}

-- a call that had effects, and what they made of a told state
pub keeps_put : {B A H : Type 0} (seen : Shows B) (v u : Viewed B) (r : Result A H) (made : List Effect) → u.reads ≡ v.reads → u.effects ≡ v.effects ++ made → u.trace ≡ v.trace
    → (seen.tells u.base).writes ≡ (seen.tells v.base).writes → (seen.tells u.base).runs ≡ (seen.tells v.base).runs → (seen.tells u.base).asked ≡ (seen.tells v.base).asked → Moves seen made v.base u.base
    → (seen.tells v.base).faults ≤ (seen.tells u.base).faults → Keeps seen v u r
keeps_put {B} seen v u r made rs es t writes runs asked world later =
    let still = λ (n : (seen.tells v.base).writes ≡ false). world.0 ∙ ap (λ (x : Bool). moved_by x made (seen.tells v.base).world) n in record {
      trace = t;
      writes = writes;
      runs = runs;
      asked = asked;
      later = later;
      reads = grows_same v.reads u.reads rs;
      effects = grows_by v.effects u.effects made es;
      plain = λ n. rs;
      told = λ n w h. (still n ∙ h.0, subst (λ (l : ReadList). Passes l w) (sym rs) h.1);
      still = still;
      moved = ok_all r (λ other e.
          let same : other ≡ made = cancel v.effects other made (sym e ∙ es) in
          subst (λ (l : List Effect). Moves seen l v.base u.base) (sym same) world);
    }

-- ---- the states that were shown

-- What is read later shows no more states.
pub showed_earlier : {B A H : Type 0} (seen : Shows B) (start b c : Viewed B) (r : Result A H) (u : WorldData) → Keeps seen b c r → Showed seen start c u → Showed seen start b u
showed_earlier {B} seen start b c r u k s = record {
  under = s.under;
  stands = stands_front (seen.tells start.base).writes (seen.tells start.base).world b.reads k.reads.more s.under (subst (λ (rs : ReadList). Stands (seen.tells start.base) rs s.under) k.reads.is s.stands);
  over = s.over;
}

next_by : (x y : Bool) (old new : Option WorldData) (reads : ReadList) (es fs m : List Effect) (b u : WorldData) → y ≡ x → fs ≡ es ++ m → new ≡ moved_by x m old → stands_by x old reads b → u ≡ Applied (own x es) b
    → (c : WorldData) × stands_by y new reads c × (Applied m u ≡ Applied (own y fs) c)
next_by false false old new reads es fs m b u h e t st eq = (b, st, ap (Applied m) eq ∙ sym (Applied-append es m b) ∙ ap (λ (l : List Effect). Applied l b) (sym e))
next_by true true old new reads es fs m b u h e t st eq = (Applied m b, t ∙ ap (option_map (Applied m)) st, ap (Applied m) eq)
next_by false true old new reads es fs m b u h e t st eq = absurd (subst T h tt)
next_by true false old new reads es fs m b u h e t st eq = absurd (subst T (sym h) tt)

-- the state that a view shows after a call, from the one before
pub showed_next : {B A H : Type 0} (seen : Shows B) (a b c : Viewed B) (x : A) (m : List Effect) (u : WorldData) → Keeps {H = H} seen a b (Ok x) → b.effects ≡ a.effects ++ m → Showed seen a c u → Showed seen b c (Applied m u)
showed_next {B} seen a b c x m u k e s =
    let n = next_by (seen.tells a.base).writes (seen.tells b.base).writes (seen.tells a.base).world (seen.tells b.base).world c.reads a.effects b.effects m s.under u k.writes e (k.moved m e).0 s.stands s.over in
    record { under = n.0; stands = n.1; over = n.2 }

-- after a call that had no effects
pub showed_same : {B A H : Type 0} (seen : Shows B) (a b c : Viewed B) (x : A) (u : WorldData) → Keeps {H = H} seen a b (Ok x) → b.effects ≡ a.effects → Showed seen a c u → Showed seen b c u
showed_same seen a b c x u k e s = showed_next seen a b c x [] u k (e ∙ sym (append-nil a.effects)) s

back_by : (x y : Bool) (old new : Option WorldData) (reads : ReadList) (es fs m : List Effect) (c v : WorldData) → y ≡ x → fs ≡ es ++ m → new ≡ moved_by x m old → stands_by y new reads c → v ≡ Applied (own y fs) c
    → (u : WorldData) × ((b : WorldData) × stands_by x old reads b × (u ≡ Applied (own x es) b)) × (v ≡ Applied m u)
back_by false false old new reads es fs m c v h e t st eq = (Applied es c, (c, st, refl), eq ∙ ap (λ (l : List Effect). Applied l c) e ∙ Applied-append es m c)
back_by true true None new reads es fs m c v h e t st eq = absurd (subst T (ap is_some (sym st ∙ t)) tt)
back_by true true (Some b) new reads es fs m c v h e t st eq = (b, (b, refl, refl), eq ∙ ap (λ (o : Option WorldData). unwrap_or o c) (sym st ∙ t))
back_by false true old new reads es fs m c v h e t st eq = absurd (subst T h tt)
back_by true false old new reads es fs m c v h e t st eq = absurd (subst T (sym h) tt)

-- the state that a view showed before a call, from the one after
pub showed_back : {B A H : Type 0} (seen : Shows B) (a b c : Viewed B) (x : A) (m : List Effect) (v : WorldData) → Keeps {H = H} seen a b (Ok x) → b.effects ≡ a.effects ++ m → Showed seen b c v
    → (u : WorldData) × Showed seen a c u × (v ≡ Applied m u)
showed_back {B} seen a b c x m v k e s =
    let n = back_by (seen.tells a.base).writes (seen.tells b.base).writes (seen.tells a.base).world (seen.tells b.base).world c.reads a.effects b.effects m s.under v k.writes e (k.moved m e).0 s.stands s.over in
    (n.0, record { under = n.1.0; stands = n.1.1; over = n.1.2 }, n.2)

-- a call that had no effects leaves those that the base does not have
pub own_same : {B A H : Type 0} (seen : Shows B) (a b : Viewed B) (r : Result A H) → Keeps seen a b r → b.effects ≡ a.effects → own_of seen b ≡ own_of seen a
own_same {B} seen a b r k e = ap (λ (x : Bool). own x b.effects) k.writes ∙ ap (own (seen.tells a.base).writes) e
