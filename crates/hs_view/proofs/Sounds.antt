-- What a view keeps.
use Rattle.std.specs.List.{AllByRecursion as ByRecursion}
use Rattle.std.proofs.Common.{◌≡◌, ◌+◌, ◌-◌, ◌^◌, min, Bool, T, false, true, ℕ, List, [], ◌∷◌, ◌++◌, refl, sym, ap, ◌∙◌, subst, arith}
use Rattle.std.specs.Prelude.{Option, Some, None, is_some, IfSome, Result, Ok, Err, IfOk, ◌<◌, ltb, if◌then◌else◌}
use Rattle.std.proofs.lemmas.Bool.{ltb-true, lt-ltb}
use Rattle.hs_view.specs.declared.halt.Halt.{Halt}
use Rattle.hs_view.specs.declared.halt.Halt.TheVariants.{Trace}
use Rattle.hs_world.specs.Reads.{ReadList, Passes, IsNew, Fresh}
use Rattle.hs_world.specs.World.{WorldData, At, Applied, AllValid}
use Rattle.hs_world.specs.declared.effect.Effect.{Effect}
use Rattle.hs_world.specs.declared.loc.Loc.{Loc}
use Rattle.hs_world.specs.declared.loc.Loc.TheVariants as loc
use Rattle.hs_world.specs.declared.loc.Value.{Value}
use Rattle.hs_world.specs.declared.loc.Value.TheVariants as value
use Rattle.hs_world.specs.declared.opts.Opts.{Opts}
use Rattle.hs_world.specs.declared.route.Route.{Route}
use Rattle.hs_world.proofs.Passing.{passes_front, fresh_push, all_push}
use Rattle.hs_overlay.specs.Overlay.{OverlayData, no_overlay, over_all, AllOwn}
use Rattle.hs_view.specs.Known.{ends_in, routes_in, tables_of}
use Rattle.hs_view.specs.Seen.{SeenData, Shows, is_of}
use Rattle.hs_view.specs.Size.{capped, read_size, reads_size, effects_size, trace_size}
use Rattle.hs_view.specs.Sound.{IsSound}
use Rattle.hs_view.specs.View.{Viewed, IsTree, Showed, Stands, stands_by, own, own_of}

to_passes : (writes : Bool) (told : Option WorldData) (rs : ReadList) (b : WorldData) → writes ≡ false → stands_by writes told rs b → IsTree b.tree × Passes rs b
to_passes false told rs b h s = s
to_passes true told rs b h s = absurd (subst T h tt)

to_told : (writes : Bool) (told : Option WorldData) (rs : ReadList) (b : WorldData) → writes ≡ true → stands_by writes told rs b → told ≡ Some b
to_told true told rs b h s = s
to_told false told rs b h s = absurd (subst T (sym h) tt)

-- a base's state, by its kind
pub stands_passes : (s : SeenData) (rs : ReadList) (b : WorldData) → s.writes ≡ false → Stands s rs b → Passes rs b
stands_passes s rs b h t = (to_passes s.writes s.world rs b h t).1

pub stands_tree : (s : SeenData) (rs : ReadList) (b : WorldData) → s.writes ≡ false → Stands s rs b → IsTree b.tree
stands_tree s rs b h t = (to_passes s.writes s.world rs b h t).0

pub stands_told : (s : SeenData) (rs : ReadList) (b : WorldData) → s.writes ≡ true → Stands s rs b → s.world ≡ Some b
stands_told s rs b h t = to_told s.writes s.world rs b h t

pub from_passes : (writes : Bool) (told : Option WorldData) (rs : ReadList) (b : WorldData) → writes ≡ false → IsTree b.tree → Passes rs b → stands_by writes told rs b
from_passes false told rs b h t p = (t, p)
from_passes true told rs b h t p = absurd (subst T h tt)

pub told_value : (o : Option WorldData) (w : WorldData) (loc : Loc) (value : Value) → IfSome o (λ u. At u loc ≡ value) → o ≡ Some w → At w loc ≡ value
told_value o w loc value h e = subst (λ (p : Option WorldData). IfSome p (λ u. At u loc ≡ value)) e h

-- ---- sizes

reads_size-push : (rs : ReadList) (r : Loc × Value) → reads_size (rs ++ r ∷ []) ≡ reads_size rs + read_size r
reads_size-push [] r = let e : read_size r + 0 ≡ 0 + read_size r = omega arith in e
reads_size-push (x ∷ xs) r = ap (λ n. read_size x + n) (reads_size-push xs r) ∙ (let e : read_size x + (reads_size xs + read_size r) ≡ (read_size x + reads_size xs) + read_size r = omega arith in e)

one_more : (s t e r m : ℕ) → s ≡ min (t + e) m → min (s + min r m) m ≡ min ((t + r) + e) m
one_more s t e r m h = omega (arith, h)

-- one read more
pub size_read : (rs : ReadList) (es : List Effect) (r : Loc × Value) (old new : ℕ) → old ≡ capped (trace_size rs es) → new ≡ min (old + capped (read_size r)) (2 ^ 128 - 1) → new ≡ capped (trace_size (rs ++ r ∷ []) es)
size_read rs es r old new h n =
    n ∙ one_more old (reads_size rs) (effects_size es) (read_size r) (2 ^ 128 - 1) h ∙ ap (λ k. capped (k + effects_size es)) (sym (reads_size-push rs r))

-- ---- what is kept

tabled_same : {B : Type 0} (seen : Shows B) (v u : Viewed B) (kept : Option OverlayData) → (seen.tells u.base).writes ≡ (seen.tells v.base).writes → u.effects ≡ v.effects → u.reads ≡ v.reads
    → ((o : OverlayData) → kept ≡ Some o → o ≡ tables_of seen v) → (o : OverlayData) → kept ≡ Some o → o ≡ tables_of seen u
tabled_same {B} seen v u kept i e r f o k = f o k ∙ (λ j. over_all (own (sym i j) (sym e j)) (no_overlay (ends_in (sym r j)) (routes_in (sym r j))))

no_tables : {B : Type 0} (seen : Shows B) (v : Viewed B) (o : OverlayData) → None ≡ Some o → o ≡ tables_of seen v
no_tables seen v o h = absurd (subst T (sym (ap is_some h)) tt)

own_same : {B : Type 0} (seen : Shows B) (v u : Viewed B) → (seen.tells u.base).writes ≡ (seen.tells v.base).writes → u.effects ≡ v.effects → own_of seen u ≡ own_of seen v
own_same {B} seen v u i e = λ j. own (i j) (e j)

-- over a base that writes
pub sound_now : {B : Type 0} (seen : Shows B) (v u : Viewed B) (size : ℕ) (kept : Option OverlayData) → IsSound seen v size kept → (seen.tells v.base).writes ≡ true → (seen.tells u.base).writes ≡ true → u.effects ≡ v.effects → u.reads ≡ v.reads → IsSound seen u size kept
sound_now {B} seen v u size kept s h i e r =
    let o : own_of seen u ≡ [] = ap (λ (x : Bool). own x u.effects) i in record {
      fresh = subst Fresh (sym r) s.fresh;
      shaped = subst (λ (rs : ReadList). ByRecursion (λ r. is_of r.0 r.1 ≡ true) rs) (sym r) s.shaped;
      valid = λ b _. subst (λ (es : List Effect). AllValid es b) (sym o) tt;
      covered = subst (λ (es : List Effect). AllOwn es (no_overlay None None)) (sym o) tt;
      sized = λ n. absurd (subst T (sym i ∙ n) tt);
      tabled = tabled_same seen v u kept (i ∙ sym h) e r s.tabled;
    }

-- over another: one read more
pub sound_read : {B : Type 0} (seen : Shows B) (v u : Viewed B) (old new : ℕ) (kept free : Option OverlayData) (loc : Loc) (value : Value) → IsSound seen v old kept → (seen.tells v.base).writes ≡ false → (seen.tells u.base).writes ≡ false → u.effects ≡ v.effects
    → u.reads ≡ v.reads ++ (loc, value) ∷ [] → IsNew loc v.reads → is_of loc value ≡ true → new ≡ min (old + capped (read_size (loc, value))) (2 ^ 128 - 1) → free ≡ None → IsSound seen u new free
sound_read {B} seen v u old new kept free loc value s h i e r n o z f =
    let same : own_of seen u ≡ own_of seen v = ap (λ (x : Bool). own x u.effects) (i ∙ sym h) ∙ ap (own (seen.tells v.base).writes) e in record {
      fresh = subst Fresh (sym r) (fresh_push v.reads (loc, value) s.fresh n);
      shaped = subst (λ (rs : ReadList). ByRecursion (λ r. is_of r.0 r.1 ≡ true) rs) (sym r) (all_push _ v.reads (loc, value) s.shaped o);
      valid = λ b t.
          let p = to_passes (seen.tells u.base).writes (seen.tells u.base).world u.reads b i t in
          subst (λ (es : List Effect). AllValid es b) (sym same)
          (s.valid b (from_passes (seen.tells v.base).writes (seen.tells v.base).world v.reads b h p.0 (passes_front v.reads _ b (subst (λ (rs : ReadList). Passes rs b) r p.1))));
      sized = λ _.
          size_read v.reads v.effects (loc, value) old new (s.sized h) z
          ∙ (λ j. capped (trace_size (sym r j) (sym e j)));
      covered = subst (λ (es : List Effect). AllOwn es (no_overlay None None)) (sym same) s.covered;
      tabled = λ x q. no_tables seen u x (sym f ∙ q);
    }

pub passes_push : (reads : ReadList) (loc : Loc) (value : Value) (w : WorldData) → Passes reads w → At w loc ≡ value → Passes (reads ++ (loc, value) ∷ []) w
passes_push [] loc value w p e = (e, tt)
passes_push (r ∷ rs) loc value w p e = (p.0, passes_push rs loc value w p.1 e)

own_none : (writes : Bool) → own writes [] ≡ []
own_none true = refl
own_none false = refl

-- a view at first
pub sound_new : {B : Type 0} (seen : Shows B) (v : Viewed B) → v.reads ≡ [] → v.effects ≡ [] → IsSound seen v 0 None
sound_new {B} seen v r e =
    let o : own_of seen v ≡ [] = ap (own (seen.tells v.base).writes) e ∙ own_none (seen.tells v.base).writes in record {
      fresh = subst Fresh (sym r) tt;
      shaped = subst (λ (rs : ReadList). ByRecursion (λ r. is_of r.0 r.1 ≡ true) rs) (sym r) tt;
      valid = λ b _. subst (λ (es : List Effect). AllValid es b) (sym o) tt;
      covered = subst (λ (es : List Effect). AllOwn es (no_overlay None None)) (sym o) tt;
      sized = λ _. (λ j. capped (trace_size (sym r j) (sym e j)));
      tabled = no_tables seen v;
    }

-- a view whose base was asked for a program
coe_stands : {x y : Bool} {o p : Option WorldData} {rs ss : ReadList} → y ≡ x → p ≡ o → ss ≡ rs → (b : WorldData) → stands_by y p ss b → stands_by x o rs b
coe_stands {x} {y} {o} {p} {rs} {ss} i w r b t = subst (λ (q : Bool × Option WorldData × ReadList). stands_by q.0 q.1 q.2 b) (λ j. (i j, w j, r j)) t

pub sound_asked : {B : Type 0} (seen : Shows B) (v u : Viewed B) (size : ℕ) (kept : Option OverlayData) → IsSound seen v size kept → (seen.tells u.base).writes ≡ (seen.tells v.base).writes → (seen.tells u.base).world ≡ (seen.tells v.base).world → u.effects ≡ v.effects → u.reads ≡ v.reads → IsSound seen u size kept
sound_asked {B} seen v u size kept s i w e r = record {
  fresh = subst Fresh (sym r) s.fresh;
  shaped = subst (λ (rs : ReadList). ByRecursion (λ r. is_of r.0 r.1 ≡ true) rs) (sym r) s.shaped;
  valid = λ b t.
      let before : stands_by (seen.tells v.base).writes (seen.tells v.base).world v.reads b = coe_stands i w r b t in
      subst (λ (es : List Effect). AllValid es b) (sym (own_same seen v u i e)) (s.valid b before);
  covered = subst (λ (es : List Effect). AllOwn es (no_overlay None None)) (sym (own_same seen v u i e)) s.covered;
  sized = λ n. s.sized (sym i ∙ n) ∙ (λ j. capped (trace_size (sym r j) (sym e j)));
  tabled = tabled_same seen v u kept i e r s.tabled;
}

now_under : (writes : Bool) (es : List Effect) → writes ≡ true → own writes es ≡ []
now_under true es h = refl
now_under false es h = absurd (subst T (sym h) tt)

-- what a base that writes has is what the view shows
pub shown_now : {B : Type 0} (seen : Shows B) (v u : Viewed B) (loc : Loc) (value : Value) → (seen.tells v.base).writes ≡ true → ((b : WorldData) → Stands (seen.tells v.base) u.reads b → At b loc ≡ value)
    → (x : WorldData) → Showed seen v u x → At x loc ≡ value
shown_now {B} seen v u loc value h f x s = ap (λ (w : WorldData). At w loc) (s.over ∙ ap (λ (es : List Effect). Applied es s.under) (now_under (seen.tells v.base).writes v.effects h)) ∙ f s.under s.stands

-- the effects of a view are valid in each state that passes its reads
pub sound_valid : {B : Type 0} (seen : Shows B) (v : Viewed B) (size : ℕ) (kept : Option OverlayData) → IsSound seen v size kept → (seen.tells v.base).writes ≡ false → (w : WorldData) → IsTree w.tree → Passes v.reads w → AllValid v.effects w
sound_valid {B} seen v size kept s h w t p =
    subst (λ (es : List Effect). AllValid es w) (ap (λ (x : Bool). own x v.effects) h) (s.valid w (from_passes (seen.tells v.base).writes (seen.tells v.base).world v.reads w h t p))

-- ---- what comes of a read

pub judged : {A : Type 0} (r : Result A Halt) (over : Bool) (value : A) (P : A → Type 0) → r ≡ (if over then Err Trace else Ok value) → P value → IfOk r P
judged {A} r over value P e p = subst (λ (x : Result A Halt). IfOk x P) (sym e) (elim over as (λ b. IfOk (if b then Err Trace else Ok value) P) [ true ↦ tt | false ↦ p ])

pub if_more : {A H : Type 0} (r : Result A H) (P Q : A → Type 0) → ((x : A) → P x → Q x) → IfOk r P → IfOk r Q
if_more (Ok x) P Q f p = f x p
if_more (Err h) P Q f p = tt

over_told : {A : Type 0} (over : Bool) (value : A) → ◌≡◌ {A = Result A Halt} (if over then Err Trace else Ok value) (Err Trace) → over ≡ true
over_told true value e = refl
over_told false value e = cc

pub over_limit : {A : Type 0} (r : Result A Halt) (over : Bool) (value : A) (limit size n : ℕ) → r ≡ (if over then Err Trace else Ok value) → over ≡ ltb limit size → size ≡ capped n → limit < 2 ^ 64
    → (r ≡ Err Trace → limit < n) × (limit < n → r ≡ Err Trace)
over_limit {A} r over value limit size n e o s h = (
  (λ t. let l = ltb-true limit size (sym o ∙ over_told over value (sym e ∙ t)) in omega (arith, l, s)),
  (λ l. let g : limit < size = omega (arith, l, s, h) in e ∙ ap (λ (b : Bool). if b then Err Trace else Ok value) (o ∙ lt-ltb limit size g)),
)

-- ---- what is at a location

pub status_is : (u : WorldData) (x : ℕ) → At u loc.Status ≡ value.Status x → u.status ≡ x
status_is u x h = cc

pub cwd_is : (u : WorldData) (x : List (List ℕ)) → At u loc.Cwd ≡ value.Cwd x → u.cwd ≡ x
cwd_is u x h = cc

pub opts_is : (u : WorldData) (x : Opts) → At u loc.Opts ≡ value.Opts x → u.opts ≡ x
opts_is u x h = cc

pub input_is : (u : WorldData) (x : List ℕ) → At u loc.Input ≡ value.Input x → u.input ≡ x
input_is u x h = cc

pub routes_are : (u : WorldData) (x : List Route) → At u loc.Routes ≡ value.Routes x → u.table.routes ≡ x
routes_are u x h = cc

pub params_are : (u : WorldData) (x : List ℕ) (y : List (List ℕ)) → At u loc.Params ≡ value.Params x y → ◌≡◌ {A = List ℕ × List (List ℕ)} (u.zero, u.params) (x, y)
params_are u x y h = let a : u.zero ≡ x = cc in let b : u.params ≡ y = cc in λ i. (a i, b i)
