-- What putting an effect leaves.
use Rattle.std.specs.List.{AllByRecursion as ByRecursion}
use Rattle.std.proofs.Common.{◌≡◌, ◌≤◌, ◌<◌, ◌+◌, ◌-◌, ◌^◌, min, ltb, ℕ, T, Bool, true, false, List, [], ◌∷◌, ◌++◌, length, get_or, refl, sym, ap, ◌∙◌, subst, arith, inl, inr}
use Rattle.std.specs.Prelude.{◌≢◌, ◌↔◌, Option, Some, None, option_map, Result, Ok, Err, is_err, OnOk, OnErr, IfSome, if◌then◌else◌}
use Rattle.hs_world.specs.Reads.{ReadList, Fresh}
use Rattle.hs_world.specs.World.{WorldData, AllValid, Applied, Apply, is_valid, passed}
use Rattle.hs_world.specs.declared.effect.Effect.{Effect}
use Rattle.hs_world.specs.declared.world.Limit.{Limit}
use Rattle.hs_world.proofs.Passing.{valid_append}
use Rattle.hs_overlay.specs.Overlay.{OverlayData, no_overlay, over_step, over_all, has_own, AllOwn}
use Rattle.hs_overlay.specs.Sizes.{over_passes}
use Rattle.hs_view.specs.Causes.{Rose}
use Rattle.hs_view.specs.Known.{ends_in, routes_in, tables_of}
use Rattle.hs_view.specs.Pushes.{has_push}
use Rattle.hs_view.specs.Puts.{HaltsWhere, Puts, Written, done_by}
use Rattle.hs_view.specs.Seen.{Shows, IsLeft, Still, is_of, pushed, spent_of}
use Rattle.hs_view.specs.Size.{capped, effect_size, effects_size, reads_size, trace_size}
use Rattle.hs_view.specs.Sound.{IsSound}
use Rattle.hs_view.specs.View.{Viewed, Keeps, Moves, Showed, Stands, moved_by, own, own_of, stands_by}
use Rattle.hs_view.specs.declared.halt.Halt.{Halt}
use Rattle.hs_view.specs.declared.halt.Halt.TheVariants as halt
use Rattle.hs_view.specs.declared.halt.SpentKind.{SpentKind}
use Rattle.hs_view.specs.declared.halt.SpentKind.TheVariants as kind
use Rattle.hs_view.proofs.Keeping.{grows_same, keeps_put, keeps_refl}
use Rattle.hs_view.proofs.Pushing.{own-push}
use Rattle.hs_view.proofs.Sounds.{over_limit}

-- ---- a base that writes

at_end : (es : List Effect) (e d : Effect) → get_or (es ++ e ∷ []) (length es) d ≡ e
at_end [] e d = refl
at_end (x ∷ xs) e d = at_end xs e d

pub last_is : (es xs : List Effect) (e x : Effect) (k : ℕ) → xs ≡ es ++ e ∷ [] → k ≡ length es → x ≡ get_or xs k x → x ≡ e
last_is es xs e x k h n g = g ∙ (λ i. get_or (h i) (n i) x) ∙ at_end es e x

written_world : {A : Type 0} (r : Result A Halt) (e : Effect) (writes : Bool) (old new : Option WorldData) → writes ≡ true → OnOk r (new ≡ pushed writes e old) → OnOk r (new ≡ option_map (Apply e) old)
written_world r e true old new w h = h
written_world r e false old new w h = absurd (subst T (sym w) tt)

exactly : {A : Type 0} (r : Result A Halt) (writes : Bool) (e : Effect) (o : Option WorldData) (l : Limit) → writes ≡ true → IfSome o (λ w. (r ≡ Err (halt.Spent (spent_of l))) ↔ (writes ≡ true) × (passed e w ≡ Some l))
    → IfSome o (λ w. HaltsWhere (halt.Spent (spent_of l)) (passed e w ≡ Some l) r)
exactly r writes e None l w h = tt
exactly r writes e (Some u) l w h = (λ p. (h.0 p).1, λ p. inl (h.1 (w, p)))

both_ok : {A : Type 0} (P Q : Type 0) (r : Result A Halt) → OnOk r P → OnOk r Q → OnOk r (P × Q)
both_ok P Q (Ok x) p q = (p, q)
both_ok P Q (Err h) p q = tt

pub written-by : {B A : Type 0} (seen : Shows B) (e x : Effect) (s t : B) (r : Result A Halt) → x ≡ e → (seen.tells s).writes ≡ true → OnOk r ((seen.tells t).world ≡ pushed (seen.tells s).writes x (seen.tells s).world)
    → ((seen.tells s).writes ≡ true → OnOk r (seen.made (x ∷ []) s t)) → OnErr r (IsLeft seen x s t)
    → ((k : SpentKind) → r ≡ Err (halt.Spent k) → Still seen s t) → (seen.tells t).asked ≡ (seen.tells s).asked → (seen.tells t).writes ≡ (seen.tells s).writes → (seen.tells t).runs ≡ (seen.tells s).runs → (seen.tells s).faults ≤ (seen.tells t).faults
    → (r ≡ Err halt.Fault → Rose (seen.tells s).faults (seen.tells t).faults)
    → ((l : Limit) → IfSome (seen.tells s).world (λ w. (r ≡ Err (halt.Spent (spent_of l))) ↔ ((seen.tells s).writes ≡ true) × (passed x w ≡ Some l))) → r ≢ Err (halt.Spent kind.Turns) → r ≢ Err (halt.Spent kind.Frames) → r ≢ Err halt.Trace → r ≢ Err halt.Outside
    → Written seen e s t r
written-by {B} {A} seen e x s t r same w ok made left full asked writes runs later fault spent turns frames trace outside = subst (λ y. Written seen y s t r) same (record {
  ok = both_ok _ _ r (written_world r x (seen.tells s).writes (seen.tells s).world (seen.tells t).world w ok) (made w);
  left = left;
  full = full;
  asked = asked;
  writes = writes;
  runs = runs;
  later = later;
  fault = fault;
  spent = λ l. exactly r (seen.tells s).writes x (seen.tells s).world l w (spent l);
  turns = turns;
  frames = frames;
  trace = trace;
  outside = outside;
})

-- ---- want of memory

other : {A : Type 0} (h i : Halt) → (h ≡ i → ⊥) → ◌≡◌ {A = Result A Halt} (Err h) (Err i) → ⊥
other h i n e = n (let p : h ≡ i = cc in p)

pub no_memory : {A : Type 0} (h : Halt) → (halt.NoMemory ≡ h → ⊥) → ◌≡◌ {A = Result A Halt} (Err halt.NoMemory) (Err h) → ⊥
no_memory {A} h = other {A = A} halt.NoMemory h

not_fault : {A : Type 0} → ◌≡◌ {A = Result A Halt} (Err halt.NoMemory) (Err halt.Fault) → ⊥
not_fault {A} = no_memory {A = A} halt.Fault (λ q. let z : ⊥ = cc in z)

not_trace : {A : Type 0} → ◌≡◌ {A = Result A Halt} (Err halt.NoMemory) (Err halt.Trace) → ⊥
not_trace {A} = no_memory {A = A} halt.Trace (λ q. let z : ⊥ = cc in z)

not_outside : {A : Type 0} → ◌≡◌ {A = Result A Halt} (Err halt.NoMemory) (Err halt.Outside) → ⊥
not_outside {A} = no_memory {A = A} halt.Outside (λ q. let z : ⊥ = cc in z)

not_spent : {A : Type 0} (k : SpentKind) → ◌≡◌ {A = Result A Halt} (Err halt.NoMemory) (Err (halt.Spent k)) → ⊥
not_spent {A} k = no_memory {A = A} (halt.Spent k) (λ q. let z : ⊥ = cc in z)

maybe_memory : (A : Type 0) (e : Effect) (o : Option WorldData) (l : Limit) → IfSome o (λ w. HaltsWhere {A = A} (halt.Spent (spent_of l)) (passed e w ≡ Some l) (Err halt.NoMemory))
maybe_memory A e None l = tt
maybe_memory A e (Some w) l = (λ p. absurd (not_spent {A = A} (spent_of l) p), λ p. inr refl)

pub written-none : {B A : Type 0} (seen : Shows B) (e : Effect) (s : B) → Written {A = A} seen e s s (Err halt.NoMemory)
written-none {B} {A} seen e s = record {
  ok = tt;
  left = inl (refl, seen.made_none s);
  full = λ k p. (refl, λ w. seen.made_none s);
  asked = refl;
  writes = refl;
  runs = refl;
  later = omega arith;
  fault = λ p. absurd (not_fault {A = A} p);
  spent = λ l. maybe_memory A e (seen.tells s).world l;
  turns = not_spent {A = A} kind.Turns;
  frames = not_spent {A = A} kind.Frames;
  trace = not_trace {A = A};
  outside = not_outside {A = A};
}

-- ---- what a view keeps

on_off : (x : Bool) → x ≡ true → x ≡ false → ⊥
on_off x p q = subst T (sym p ∙ q) tt

own_off : (writes : Bool) (es : List Effect) → writes ≡ false → own writes es ≡ es
own_off false es h = refl
own_off true es h = absurd (subst T h tt)

own_more : (es : List Effect) (e : Effect) (o : OverlayData) → AllOwn es o → has_own e (over_all es o) ≡ true → AllOwn (es ++ e ∷ []) o
own_more [] e o a h = (h, tt)
own_more (x ∷ xs) e o a h = (a.0, own_more xs e (over_step x o) a.1 h)

over_more : (es : List Effect) (e : Effect) (o : OverlayData) → over_all (es ++ e ∷ []) o ≡ over_step e (over_all es o)
over_more [] e o = refl
over_more (x ∷ xs) e o = over_more xs e (over_step x o)

effects_size-push : (es : List Effect) (e : Effect) → effects_size (es ++ e ∷ []) ≡ effects_size es + (64 + effect_size e)
effects_size-push [] e = let p : 64 + effect_size e + 0 ≡ 0 + (64 + effect_size e) = omega arith in p
effects_size-push (x ∷ xs) e =
    ap (λ n. 64 + effect_size x + n) (effects_size-push xs e)
    ∙ (let p : 64 + effect_size x + (effects_size xs + (64 + effect_size e)) ≡ 64 + effect_size x + effects_size xs + (64 + effect_size e) = omega arith in p)

one_more : (old new size r es e m : ℕ) → old ≡ min (r + es) m → size ≡ min (64 + min e m) m → new ≡ min (old + size) m → new ≡ min (r + (es + (64 + e))) m
one_more old new size r es e m h s n = omega (arith, h, s, n)

-- one effect more
pub size-put : (rs : ReadList) (es : List Effect) (e : Effect) (old new size : ℕ) → old ≡ capped (trace_size rs es) → size ≡ min (64 + capped (effect_size e)) (2 ^ 128 - 1) → new ≡ min (old + size) (2 ^ 128 - 1)
    → new ≡ capped (trace_size rs (es ++ e ∷ []))
size-put rs es e old new size h s n = one_more old new size (reads_size rs) (effects_size es) (effect_size e) (2 ^ 128 - 1) h s n ∙ ap (λ k. capped (reads_size rs + k)) (sym (effects_size-push es e))

own_put : {B : Type 0} (seen : Shows B) (v u : Viewed B) (e : Effect) → (seen.tells v.base).writes ≡ false → (seen.tells u.base).writes ≡ false → u.effects ≡ v.effects ++ e ∷ [] → own_of seen u ≡ own_of seen v ++ e ∷ []
own_put {B} seen v u e w x f = own_off (seen.tells u.base).writes u.effects x ∙ f ∙ ap (λ es. es ++ e ∷ []) (sym (own_off (seen.tells v.base).writes v.effects w))

tables_put : {B : Type 0} (seen : Shows B) (v u : Viewed B) (e : Effect) → own_of seen u ≡ own_of seen v ++ e ∷ [] → u.reads ≡ v.reads → tables_of seen u ≡ over_step e (tables_of seen v)
tables_put {B} seen v u e o r = (λ j. over_all (o j) (no_overlay (ends_in (r j)) (routes_in (r j)))) ∙ over_more (own_of seen v) e (no_overlay (ends_in v.reads) (routes_in v.reads))

the_same : (o x y : OverlayData) → Some x ≡ Some o → x ≡ y → o ≡ y
the_same o x y h e = (let p : o ≡ x = cc in p) ∙ e

stands_same : {B : Type 0} (seen : Shows B) (v u : Viewed B) (b : WorldData) → u.base ≡ v.base → u.reads ≡ v.reads → Stands (seen.tells u.base) u.reads b → Stands (seen.tells v.base) v.reads b
stands_same {B} seen v u b q r t = subst (λ (p : B × ReadList). Stands (seen.tells p.0) p.1 b) (λ j. (q j, r j)) t

pub sound-put : {B : Type 0} (seen : Shows B) (v u : Viewed B) (e : Effect) (old new size : ℕ) (kept after : Option OverlayData) (o : OverlayData) → IsSound seen v old kept → (seen.tells v.base).writes ≡ false → u.base ≡ v.base → u.reads ≡ v.reads
    → u.effects ≡ v.effects ++ e ∷ [] → ((w : WorldData) → Showed seen v v w → is_valid e w ≡ true) → has_push e v.effects ≡ true → o ≡ over_step e (tables_of seen v) → size ≡ min (64 + capped (effect_size e)) (2 ^ 128 - 1)
    → new ≡ min (old + size) (2 ^ 128 - 1) → after ≡ Some o → IsSound seen u new after
sound-put {B} seen v u e old new size kept after o s w q r f ok has t z n a =
    let same : own_of seen u ≡ own_of seen v ++ e ∷ [] = own_put seen v u e w (ap (λ p. (seen.tells p).writes) q ∙ w) f in
    let mine : has_own e (over_all (own_of seen v) (no_overlay None None)) ≡ true = own-push e (own_of seen v) None None ∙ ap (has_push e) (own_off (seen.tells v.base).writes v.effects w) ∙ has in record {
      fresh = subst Fresh (sym r) s.fresh;
      shaped = subst (λ (rs : ReadList). ByRecursion (λ r. is_of r.0 r.1 ≡ true) rs) (sym r) s.shaped;
      valid = λ b st.
          let before = stands_same seen v u b q r st in
          subst (λ (es : List Effect). AllValid es b) (sym same)
          (valid_append (own_of seen v) (e ∷ []) b (s.valid b before) (ok (Applied (own_of seen v) b) (record { under = b; stands = before; over = refl }), tt));
      covered = subst (λ (es : List Effect). AllOwn es (no_overlay None None)) (sym same) (own_more (own_of seen v) e (no_overlay None None) s.covered mine);
      sized = λ _. size-put v.reads v.effects e old new size (s.sized w) z n ∙ (λ j. capped (trace_size (sym r j) (sym f j)));
      tabled = λ x h. the_same x o (tables_of seen u) (sym a ∙ h) (t ∙ sym (tables_put seen v u e same r));
    }

-- a view that is as it was
pub sound-as : {B : Type 0} (seen : Shows B) (v u : Viewed B) (size : ℕ) (kept : Option OverlayData) → IsSound seen v size kept → u ≡ v → IsSound seen u size kept
sound-as seen v u size kept s e = subst (λ x. IsSound seen x size kept) (sym e) s

valid_alike : (x y : Bool) (told tale : Option WorldData) (rs ss : ReadList) (es : List Effect) → y ≡ x → ss ≡ rs → ((b : WorldData) → stands_by x told rs b → AllValid (own x es) b) → (b : WorldData) → stands_by y tale ss b → AllValid (own y es) b
valid_alike false false told tale rs ss es i r f b t = f b (subst (λ (l : ReadList). stands_by false tale l b) r t)
valid_alike true true told tale rs ss es i r f b t = tt
valid_alike false true told tale rs ss es i r f b t = absurd (subst T i tt)
valid_alike true false told tale rs ss es i r f b t = absurd (subst T (sym i) tt)

-- What a view keeps hangs on its base by no more than whether that writes.
pub sound-alike : {B C : Type 0} (seen : Shows B) (look : Shows C) (v : Viewed B) (u : Viewed C) (size : ℕ) (kept : Option OverlayData) → IsSound seen v size kept → (look.tells u.base).writes ≡ (seen.tells v.base).writes → u.reads ≡ v.reads
    → u.effects ≡ v.effects → IsSound look u size kept
sound-alike {B} {C} seen look v u size kept s i r f =
    let same : own_of look u ≡ own_of seen v = λ j. own (i j) (f j) in record {
      fresh = subst Fresh (sym r) s.fresh;
      shaped = subst (λ (rs : ReadList). ByRecursion (λ r. is_of r.0 r.1 ≡ true) rs) (sym r) s.shaped;
      valid = λ b t. subst (λ (es : List Effect). AllValid (own (look.tells u.base).writes es) b) (sym f) (valid_alike (seen.tells v.base).writes (look.tells u.base).writes (seen.tells v.base).world (look.tells u.base).world v.reads u.reads v.effects i r s.valid b t);
      covered = subst (λ (es : List Effect). AllOwn es (no_overlay None None)) (sym same) s.covered;
      sized = λ n. s.sized (sym i ∙ n) ∙ (λ j. capped (trace_size (sym r j) (sym f j)));
      tabled = λ o k. s.tabled o k ∙ (λ j. over_all (sym same j) (no_overlay (ends_in (sym r j)) (routes_in (sym r j))));
    }

-- ---- over a base that writes

done_now : {A : Type 0} (r : Result A Halt) (new es : List Effect) (e : Effect) → OnOk r (new ≡ es ++ e ∷ []) → OnErr r (new ≡ es) → r ≢ Err halt.Trace → new ≡ done_by r es e
done_now (Ok x) new es e p q n = p
done_now (Err halt.NoMemory) new es e p q n = q
done_now (Err halt.Fault) new es e p q n = q
done_now (Err halt.Outside) new es e p q n = q
done_now (Err halt.Trace) new es e p q n = absurd (n refl)
done_now (Err (halt.Spent k)) new es e p q n = q

moved_on : (writes : Bool) (e : Effect) (o : Option WorldData) → writes ≡ true → option_map (Apply e) o ≡ moved_by writes (e ∷ []) o
moved_on true e o h = refl
moved_on false e o h = absurd (subst T (sym h) tt)

keeps_now : {B A : Type 0} (seen : Shows B) (v u : Viewed B) (e : Effect) (r : Result A Halt) → (seen.tells v.base).writes ≡ true → u.reads ≡ v.reads → u.trace ≡ v.trace → OnOk r (u.effects ≡ v.effects ++ e ∷ []) → OnErr r (u.effects ≡ v.effects)
    → Written seen e v.base u.base r → Keeps seen v u r
keeps_now {B} seen v u e (Ok x) w rs t p q d = keeps_put seen v u (Ok x) (e ∷ []) rs p t d.writes d.runs d.asked (d.ok.0 ∙ moved_on (seen.tells v.base).writes e (seen.tells v.base).world w, λ _. d.ok.1) d.later
keeps_now {B} seen v u e (Err h) w rs t p q d = record {
  trace = t;
  writes = d.writes;
  runs = d.runs;
  asked = d.asked;
  later = d.later;
  reads = grows_same v.reads u.reads rs;
  effects = grows_same v.effects u.effects q;
  plain = λ n. rs;
  told = λ n. absurd (on_off (seen.tells v.base).writes w n);
  still = λ n. absurd (on_off (seen.tells v.base).writes w n);
  moved = tt;
}

pub puts-now : {B A : Type 0} (seen : Shows B) (v u : Viewed B) (e : Effect) (r : Result A Halt) → (seen.tells v.base).writes ≡ true → u.reads ≡ v.reads → u.trace ≡ v.trace → OnOk r (u.effects ≡ v.effects ++ e ∷ []) → OnErr r (u.effects ≡ v.effects)
    → Written seen e v.base u.base r → Puts seen v u e r
puts-now {B} seen v u e r w rs t p q d = record {
  reads = rs;
  effects = done_now r u.effects v.effects e p q d.trace;
  keeps = keeps_now seen v u e r w rs t p q d;
  left = λ _. d.left;
  full = d.full;
  fault = d.fault;
  trace = λ n. absurd (on_off (seen.tells v.base).writes w n);
  through = λ _. d.trace;
  spent = λ _. d.spent;
  long = λ n. absurd (on_off (seen.tells v.base).writes w n);
  tree = λ n. absurd (on_off (seen.tells v.base).writes w n);
  turns = d.turns;
  frames = d.frames;
  outside = d.outside;
}

-- ---- over another

moved_off : (writes : Bool) (es : List Effect) (o : Option WorldData) → writes ≡ false → o ≡ moved_by writes es o
moved_off false es o h = refl
moved_off true es o h = absurd (subst T h tt)

puts_made : {B A : Type 0} (seen : Shows B) (v u : Viewed B) (e : Effect) (r : Result A Halt) → (seen.tells v.base).writes ≡ false → u.base ≡ v.base → u.reads ≡ v.reads → u.effects ≡ v.effects ++ e ∷ [] → u.trace ≡ v.trace
    → over_passes e (tables_of seen v) ≡ false → u.effects ≡ done_by r v.effects e → (r ≡ Err halt.Trace ↔ u.trace < trace_size u.reads u.effects) → r ≢ Err halt.Fault → ((k : SpentKind) → r ≢ Err (halt.Spent k)) → r ≢ Err halt.Outside
    → Puts seen v u e r
puts_made {B} seen v u e r w q rs f t n d past fault spent outside =
    let same = ap (λ p. (seen.tells p).faults) q in record {
      reads = rs;
      effects = d;
      keeps = keeps_put seen v u r (e ∷ []) rs f t (ap (λ p. (seen.tells p).writes) q) (ap (λ p. (seen.tells p).runs) q) (ap (λ p. (seen.tells p).asked) q) (ap (λ p. (seen.tells p).world) q ∙ moved_off (seen.tells v.base).writes (e ∷ []) (seen.tells v.base).world w, λ h. absurd (on_off (seen.tells v.base).writes h w)) (omega (arith, same));
      left = λ h. absurd (on_off (seen.tells v.base).writes h w);
      full = λ k h. absurd (spent k h);
      fault = λ h. absurd (fault h);
      trace = λ _ _. past;
      through = λ h. absurd (on_off (seen.tells v.base).writes h w);
      spent = λ h. absurd (on_off (seen.tells v.base).writes h w);
      long = λ _. (λ h. absurd (spent kind.Bytes h), λ h. absurd (on_off (over_passes e (tables_of seen v)) h n));
      tree = λ _. spent kind.Tree;
      turns = spent kind.Turns;
      frames = spent kind.Frames;
      outside = outside;
    }

ok_err : {A : Type 0} (x : A) (h : Halt) → ◌≡◌ {A = Result A Halt} (Ok x) (Err h) → ⊥
ok_err x h e = cc

made_by : {B A : Type 0} (seen : Shows B) (v u : Viewed B) (e : Effect) (over : Bool) (x : A) → (seen.tells v.base).writes ≡ false → u.base ≡ v.base → u.reads ≡ v.reads → u.effects ≡ v.effects ++ e ∷ [] → u.trace ≡ v.trace
    → over_passes e (tables_of seen v) ≡ false → ◌≡◌ {A = Result A Halt} (if over then Err halt.Trace else Ok x) (Err halt.Trace) ↔ u.trace < trace_size u.reads u.effects → Puts {A = A} seen v u e (if over then Err halt.Trace else Ok x)
made_by {B} {A} seen v u e true x w q rs f t n past =
    puts_made {A = A} seen v u e (Err halt.Trace) w q rs f t n f past (other {A = A} halt.Trace halt.Fault (λ p. let z : ⊥ = cc in z)) (λ k. other {A = A} halt.Trace (halt.Spent k) (λ p. let z : ⊥ = cc in z))
    (other {A = A} halt.Trace halt.Outside (λ p. let z : ⊥ = cc in z))
made_by {B} {A} seen v u e false x w q rs f t n past = puts_made {A = A} seen v u e (Ok x) w q rs f t n f past (ok_err x halt.Fault) (λ k. ok_err x (halt.Spent k)) (ok_err x halt.Outside)

pub puts-made : {B A : Type 0} (seen : Shows B) (v u : Viewed B) (e : Effect) (r : Result A Halt) (over : Bool) (x : A) (size : ℕ) → (seen.tells v.base).writes ≡ false → u.base ≡ v.base → u.reads ≡ v.reads → u.effects ≡ v.effects ++ e ∷ [] → u.trace ≡ v.trace
    → over_passes e (tables_of seen v) ≡ false → r ≡ (if over then Err halt.Trace else Ok x) → over ≡ ltb u.trace size → size ≡ capped (trace_size u.reads u.effects) → u.trace < 2 ^ 64 → Puts seen v u e r
puts-made {B} {A} seen v u e r over x size w q rs f t n is o s l =
    let past = over_limit r over x u.trace size (trace_size u.reads u.effects) is o s l in
    subst (λ (y : Result A Halt). Puts seen v u e y) (sym is) (made_by seen v u e over x w q rs f t n (subst (λ (y : Result A Halt). y ≡ Err halt.Trace ↔ u.trace < trace_size u.reads u.effects) is past))

-- ---- refusals that leave the view

pub puts-none : {B A : Type 0} (seen : Shows B) (v : Viewed B) (e : Effect) → Puts {A = A} seen v v e (Err halt.NoMemory)
puts-none {B} {A} seen v e = record {
  reads = refl;
  effects = refl;
  keeps = keeps_refl seen v (Err halt.NoMemory);
  left = λ _. inl (refl, seen.made_none v.base);
  full = λ k h. (refl, λ _. seen.made_none v.base);
  fault = λ h. absurd (not_fault {A = A} h);
  trace = λ _ l. (λ h. absurd (not_trace {A = A} h), λ m. absurd (omega (arith, l, m)));
  through = λ _. not_trace {A = A};
  spent = λ _ l. maybe_memory A e (seen.tells v.base).world l;
  long = λ _. (λ h. absurd (not_spent {A = A} kind.Bytes h), λ h. inr refl);
  tree = λ _. not_spent {A = A} kind.Tree;
  turns = not_spent {A = A} kind.Turns;
  frames = not_spent {A = A} kind.Frames;
  outside = not_outside {A = A};
}

not_long : {A : Type 0} (h : Halt) → (halt.Spent kind.Bytes ≡ h → ⊥) → ◌≡◌ {A = Result A Halt} (Err (halt.Spent kind.Bytes)) (Err h) → ⊥
not_long {A} h = other {A = A} (halt.Spent kind.Bytes) h

pub puts-long : {B A : Type 0} (seen : Shows B) (v : Viewed B) (e : Effect) → (seen.tells v.base).writes ≡ false → over_passes e (tables_of seen v) ≡ true → Puts {A = A} seen v v e (Err (halt.Spent kind.Bytes))
puts-long {B} {A} seen v e w p = record {
  reads = refl;
  effects = refl;
  keeps = keeps_refl seen v (Err (halt.Spent kind.Bytes));
  left = λ h. absurd (on_off (seen.tells v.base).writes h w);
  full = λ k h. (refl, λ _. seen.made_none v.base);
  fault = λ h. absurd (not_long {A = A} halt.Fault (λ q. let z : ⊥ = cc in z) h);
  trace = λ _ l. (λ h. absurd (not_long {A = A} halt.Trace (λ q. let z : ⊥ = cc in z) h), λ m. absurd (omega (arith, l, m)));
  through = λ _. not_long {A = A} halt.Trace (λ q. let z : ⊥ = cc in z);
  spent = λ h. absurd (on_off (seen.tells v.base).writes h w);
  long = λ _. (λ h. p, λ h. inl refl);
  tree = λ _. not_long {A = A} (halt.Spent kind.Tree) (λ q. let z : ⊥ = cc in z);
  turns = not_long {A = A} (halt.Spent kind.Turns) (λ q. let z : ⊥ = cc in z);
  frames = not_long {A = A} (halt.Spent kind.Frames) (λ q. let z : ⊥ = cc in z);
  outside = not_long {A = A} halt.Outside (λ q. let z : ⊥ = cc in z);
}

pub puts-as : {B A : Type 0} (seen : Shows B) (v u : Viewed B) (e : Effect) (r : Result A Halt) → Puts seen v v e r → u ≡ v → Puts seen v u e r
puts-as seen v u e r p h = subst (λ x. Puts seen v x e r) (sym h) p

pub puts-from : {B A : Type 0} (seen : Shows B) (w v u : Viewed B) (e : Effect) (r : Result A Halt) → w ≡ v → Puts seen w u e r → Puts seen v u e r
puts-from seen w v u e r h p = subst (λ x. Puts seen x u e r) h p

-- ---- what a call answered

pub if-err : {A E : Type 0} {P : Type 0} (r : Result A E) → is_err r ≡ true → OnErr r P → P
if-err (Ok x) h p = absurd (subst T (sym h) tt)
if-err (Err e) h p = p

pub if-ok : {A E : Type 0} {P : Type 0} (r : Result A E) → is_err r ≡ false → OnOk r P → P
if-ok (Ok x) h p = p
if-ok (Err e) h p = absurd (subst T h tt)
