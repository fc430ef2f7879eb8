-- What a view's reads tell of its base's tables of routes, and what the tables of its effects show.
use Rattle.std.proofs.Common.{◌≡◌, ℕ, ◌<◌, zero, suc, T, Bool, true, false, List, [], ◌∷◌, ◌++◌, length, get_or, refl, sym, ap, ◌∙◌, subst, arith}
use Rattle.std.specs.Prelude.{Option, Some, None, is_some, option_map}
use Rattle.std.specs.FinMap.{get}
use Rattle.hs_world.specs.Reads.{ReadList, Passes, IsNew, IsRead, Fresh}
use Rattle.hs_world.specs.Files.{kind_of, bytes_of}
use Rattle.hs_world.specs.Tables.{ends_of}
use Rattle.hs_world.specs.World.{WorldData, At, Applied, AllValid, all_tables}
use Rattle.hs_world.specs.declared.loc.Loc.{Loc}
use Rattle.hs_world.specs.declared.loc.Loc.TheVariants as loc
use Rattle.hs_world.specs.declared.loc.Value.{Value}
use Rattle.hs_world.specs.declared.loc.Value.TheVariants as value
use Rattle.hs_world.specs.declared.route.Route.{Route}
use Rattle.hs_world.specs.declared.effect.Effect.{Effect}
use Rattle.hs_world.proofs.Passing.{read_has, passes_front}
use Rattle.hs_overlay.specs.Inputs.{input_of}
use Rattle.hs_overlay.specs.Over.{Over}
use Rattle.hs_overlay.specs.Overlay.{OverlayData, no_overlay, over_all, AllOwn}
use Rattle.hs_overlay.specs.Routing.{routes_over, ends_over, captured_over}
use Rattle.hs_overlay.specs.Shown.{own_entry, own_names, own_value, over_value, lacks}
use Rattle.hs_overlay.proofs.Knowledge.{known-after, own-known}
use Rattle.hs_overlay.proofs.Overs.{over_start, over_after}
use Rattle.hs_overlay.proofs.ShownLaws.{own-shown, over-shown, none-lacks}
use Rattle.hs_view.specs.Known.{ends_or, ends_in, routes_or, routes_in, is_of_tables, tables_of, IsTold, IsNine, IsSettled, Sure, Told, Untold, Tabled}
use Rattle.hs_view.specs.Seen.{Shows, is_of}
use Rattle.hs_view.specs.Sound.{IsSound}
use Rattle.hs_view.specs.View.{Viewed, Grows, Showed, Stands, own, own_of}
use Rattle.hs_view.proofs.Sounds.{stands_passes, stands_tree, from_passes}

-- ---- the ends

not_ends : (l : Loc) (v : Value) (rest : Option (List Route)) → (l ≡ loc.Ends → ⊥) → ends_or l v rest ≡ rest
not_ends loc.Ends v rest h = absurd (h refl)
not_ends _ v rest h = refl

pub no-ends : (rs : ReadList) → IsNew loc.Ends rs → ends_in rs ≡ None
no-ends [] h = refl
no-ends (r ∷ rs) h = not_ends r.0 r.1 (ends_in rs) h.0 ∙ no-ends rs h.1

ends_at : (rs : ReadList) (v : Value) (k : ℕ) → k < length rs → get_or rs k (loc.Ends, v) ≡ (loc.Ends, v) → Fresh rs → ends_in rs ≡ ends_or loc.Ends v None
ends_at [] v k l e f = absurd (omega (arith, l))
ends_at (r ∷ rs) v zero l e f =
    (λ i. ends_or (e i).0 (e i).1 (ends_in rs)) ∙ ap (ends_or loc.Ends v) (no-ends rs (subst (λ x. IsNew x rs) (ap (λ p. p.0) e) f.0))
ends_at (r ∷ rs) v (suc k) l e f =
    let m : k < length rs = omega (arith, l) in
    not_ends r.0 r.1 (ends_in rs) (λ q. read_has (λ x. x.0 ≡ r.0 → ⊥) rs loc.Ends v (k, m, e) f.0 (sym q)) ∙ ends_at rs v k m e f.1

pub the-ends : (rs : ReadList) (v : Value) → Fresh rs → IsRead rs loc.Ends v → ends_in rs ≡ ends_or loc.Ends v None
the-ends rs v f h = ends_at rs v h.0 h.1 h.2 f

kind_ends : (v : Value) → is_of loc.Ends v ≡ true → (xs : List Route) × (v ≡ value.Ends xs)
kind_ends (value.Ends xs) h = (xs, refl)
kind_ends _ h = absurd (subst T (sym h) tt)

-- a read of them tells them
pub told-ends : (rs : ReadList) (v : Value) → Fresh rs → IsRead rs loc.Ends v → is_of loc.Ends v ≡ true → IsTold (ends_in rs)
told-ends rs v f r h =
    let (xs, e) = kind_ends v h in
    (xs, the-ends rs v f r ∙ ap (λ x. ends_or loc.Ends x None) e)

one_ends : (l : Loc) (v : Value) (rest : Option (List Route)) (b : WorldData) (es : List Route) → At b l ≡ v → (rest ≡ Some es → es ≡ ends_of (all_tables b)) → ends_or l v rest ≡ Some es → es ≡ ends_of (all_tables b)
one_ends loc.Ends (value.Ends xs) rest b es a f h = cc
one_ends _ _ rest b es a f h = f h

ends_known : (rs : ReadList) (b : WorldData) → Passes rs b → (es : List Route) → ends_in rs ≡ Some es → es ≡ ends_of (all_tables b)
ends_known [] b p es h = absurd (subst T (ap is_some (sym h)) tt)
ends_known (r ∷ rs) b p es h = one_ends r.0 r.1 (ends_in rs) b es p.0 (ends_known rs b p.1 es) h

-- ---- the routes

not_routes : (l : Loc) (v : Value) (rest : Option (List Route)) → (l ≡ loc.Routes → ⊥) → routes_or l v rest ≡ rest
not_routes loc.Routes v rest h = absurd (h refl)
not_routes _ v rest h = refl

pub no-routes : (rs : ReadList) → IsNew loc.Routes rs → routes_in rs ≡ None
no-routes [] h = refl
no-routes (r ∷ rs) h = not_routes r.0 r.1 (routes_in rs) h.0 ∙ no-routes rs h.1

routes_at : (rs : ReadList) (v : Value) (k : ℕ) → k < length rs → get_or rs k (loc.Routes, v) ≡ (loc.Routes, v) → Fresh rs → routes_in rs ≡ routes_or loc.Routes v None
routes_at [] v k l e f = absurd (omega (arith, l))
routes_at (r ∷ rs) v zero l e f =
    (λ i. routes_or (e i).0 (e i).1 (routes_in rs)) ∙ ap (routes_or loc.Routes v) (no-routes rs (subst (λ x. IsNew x rs) (ap (λ p. p.0) e) f.0))
routes_at (r ∷ rs) v (suc k) l e f =
    let m : k < length rs = omega (arith, l) in
    not_routes r.0 r.1 (routes_in rs) (λ q. read_has (λ x. x.0 ≡ r.0 → ⊥) rs loc.Routes v (k, m, e) f.0 (sym q)) ∙ routes_at rs v k m e f.1

pub the-routes : (rs : ReadList) (v : Value) → Fresh rs → IsRead rs loc.Routes v → routes_in rs ≡ routes_or loc.Routes v None
the-routes rs v f h = routes_at rs v h.0 h.1 h.2 f

pub told-routes : (rs : ReadList) (xs : List Route) → Fresh rs → IsRead rs loc.Routes (value.Routes xs) → length xs ≡ 9 → IsNine (routes_in rs)
told-routes rs xs f r n = (xs, the-routes rs (value.Routes xs) f r, n)

one_routes : (l : Loc) (v : Value) (rest : Option (List Route)) (b : WorldData) (es : List Route) → At b l ≡ v → (rest ≡ Some es → es ≡ b.table.routes) → routes_or l v rest ≡ Some es → es ≡ b.table.routes
one_routes loc.Routes (value.Routes xs) rest b es a f h = cc
one_routes _ _ rest b es a f h = f h

routes_known : (rs : ReadList) (b : WorldData) → Passes rs b → (es : List Route) → routes_in rs ≡ Some es → es ≡ b.table.routes
routes_known [] b p es h = absurd (subst T (ap is_some (sym h)) tt)
routes_known (r ∷ rs) b p es h = one_routes r.0 r.1 (routes_in rs) b es p.0 (routes_known rs b p.1 es) h

-- a read of another location tells nothing of them
ends_pushed : (rs : ReadList) (l : Loc) (v : Value) → (l ≡ loc.Ends → ⊥) → ends_in (rs ++ (l, v) ∷ []) ≡ ends_in rs
ends_pushed [] l v h = not_ends l v None h
ends_pushed (r ∷ rs) l v h = ap (ends_or r.0 r.1) (ends_pushed rs l v h)

routes_pushed : (rs : ReadList) (l : Loc) (v : Value) → (l ≡ loc.Routes → ⊥) → routes_in (rs ++ (l, v) ∷ []) ≡ routes_in rs
routes_pushed [] l v h = not_routes l v None h
routes_pushed (r ∷ rs) l v h = ap (routes_or r.0 r.1) (routes_pushed rs l v h)

-- ---- the state that a view shows

pub tables-over : {B : Type 0} (seen : Shows B) (v : Viewed B) (b : WorldData) → (seen.tells v.base).writes ≡ false → Stands (seen.tells v.base) v.reads b → AllOwn (own_of seen v) (no_overlay None None) → AllValid (own_of seen v) b
    → Over (tables_of seen v) b (Applied (own_of seen v) b)
tables-over {B} seen v b w s a ok =
    let p = stands_passes (seen.tells v.base) v.reads b w s in
    over_after (own_of seen v) (no_overlay (ends_in v.reads) (routes_in v.reads)) b b
    (over_start b (ends_in v.reads) (routes_in v.reads) (record { ends = ends_known v.reads b p; routes = routes_known v.reads b p }))
    (own-known (own_of seen v) None None (ends_in v.reads) (routes_in v.reads) a) ok

-- What is settled lacks nothing.
pub none-lacking : {B : Type 0} (seen : Shows B) (v : Viewed B) (l : Loc) (b w : WorldData) → IsSettled l (tables_of seen v) v.reads → Over (tables_of seen v) b w → lacks (tables_of seen v) l ≡ false
none-lacking {B} seen v l b w (Sure h) o = h
none-lacking {B} seen v l b w (Told e r) o =
    let k = known-after (own_of seen v) (no_overlay (ends_in v.reads) (routes_in v.reads)) in
    none-lacks l (tables_of seen v) b w e.0 r.0 o (ap (λ p. p.0) k ∙ e.1) (ap (λ p. p.1) k ∙ r.1) (let n = r.2 in omega (arith, n))

-- ---- what a view's type keeps of them

pub tabled-by : {B : Type 0} (seen : Shows B) (v : Viewed B) (size : ℕ) (kept : Option OverlayData) (o : OverlayData) → IsSound seen v size kept → (seen.tells v.base).writes ≡ false → o ≡ tables_of seen v → Tabled seen v o
tabled-by {B} seen v size kept o s w e = record { is = e; over = λ b t. subst (λ x. Over x b (Applied (own_of seen v) b)) (sym e) (tables-over seen v b w t s.covered (s.valid b t)) }

pub sound-free : {B : Type 0} (seen : Shows B) (v : Viewed B) (size : ℕ) (kept free : Option OverlayData) → IsSound seen v size kept → free ≡ None → IsSound seen v size free
sound-free seen v size kept free s n = record { fresh = s.fresh; shaped = s.shaped; valid = s.valid; covered = s.covered; sized = s.sized; tabled = λ o e. absurd (subst T (sym (ap is_some (sym n ∙ e))) tt) }

pub sound-kept : {B : Type 0} (seen : Shows B) (v : Viewed B) (size : ℕ) (kept : Option OverlayData) (o : OverlayData) → IsSound seen v size kept → o ≡ tables_of seen v → IsSound seen v size (Some o)
sound-kept seen v size kept o s e = record { fresh = s.fresh; shaped = s.shaped; valid = s.valid; covered = s.covered; sized = s.sized; tabled = λ x q. (let p : x ≡ o = cc in p) ∙ e }

own-off : (writes : Bool) (es : List Effect) → writes ≡ false → own writes es ≡ es
own-off false es h = refl
own-off true es h = absurd (subst T h tt)

tables-built : {B : Type 0} (seen : Shows B) (v : Viewed B) → (seen.tells v.base).writes ≡ false → over_all v.effects (no_overlay (ends_in v.reads) (routes_in v.reads)) ≡ tables_of seen v
tables-built {B} seen v w = ap (λ es. over_all es (no_overlay (ends_in v.reads) (routes_in v.reads))) (sym (own-off (seen.tells v.base).writes v.effects w))

pub tabled-built : {B : Type 0} (seen : Shows B) (v : Viewed B) (size : ℕ) (kept : Option OverlayData) (o : OverlayData) → IsSound seen v size kept → (seen.tells v.base).writes ≡ false → o ≡ over_all v.effects (no_overlay (ends_in v.reads) (routes_in v.reads)) → Tabled seen v o
tabled-built seen v size kept o s w e = tabled-by seen v size kept o s w (e ∙ tables-built seen v w)

-- ---- answers

stands_as : {B : Type 0} (seen : Shows B) (a c : Viewed B) (rs : ReadList) (b : WorldData) → (seen.tells a.base).writes ≡ false → (seen.tells c.base).writes ≡ (seen.tells a.base).writes → Stands (seen.tells a.base) rs b → Stands (seen.tells c.base) rs b
stands_as {B} seen a c rs b w e s = from_passes (seen.tells c.base).writes (seen.tells c.base).world rs b (e ∙ w) (stands_tree (seen.tells a.base) rs b w s) (stands_passes (seen.tells a.base) rs b w s)

-- a value that the effects give by themselves
pub own-answer : {B : Type 0} (seen : Shows B) (old v : Viewed B) (l : Loc) (o : OverlayData) (x : Value) → (seen.tells old.base).writes ≡ false → (seen.tells v.base).writes ≡ (seen.tells old.base).writes → v.effects ≡ old.effects
    → Tabled seen v o → IsSettled l o v.reads → own_value o l ≡ Some x → (u : WorldData) → Showed seen old v u → At u l ≡ x
own-answer {B} seen old v l o x w e f t q g u s =
    let b = s.under in
    let ov = t.over b (stands_as seen old v v.reads b w e s.stands) in
    let same : own_of seen old ≡ own_of seen v = λ i. own (sym e i) (sym f i) in
    let lacking : lacks o l ≡ false = ap (λ y. lacks y l) t.is ∙ none-lacking seen v l b (Applied (own_of seen v) b) (subst (λ y. IsSettled l y v.reads) t.is q) (subst (λ y. Over y b (Applied (own_of seen v) b)) t.is ov) in
    ap (λ y. At y l) (s.over ∙ ap (λ es. Applied es b) same) ∙ own-shown l o b (Applied (own_of seen v) b) x ov lacking g

-- and one over the base's
pub over-answer : {B : Type 0} (seen : Shows B) (old v c : Viewed B) (l : Loc) (o : OverlayData) (x : Value) → (seen.tells old.base).writes ≡ false → (seen.tells v.base).writes ≡ (seen.tells old.base).writes → v.effects ≡ old.effects
    → Tabled seen v o → IsSettled l o v.reads → own_value o l ≡ None → Grows v.reads c.reads → ((b : WorldData) → Stands (seen.tells v.base) c.reads b → over_value o l (At b l) ≡ x)
    → (u : WorldData) → Showed seen old c u → At u l ≡ x
over-answer {B} seen old v c l o x w e f t q g more val u s =
    let b = s.under in
    let later = stands_as seen old v c.reads b w e s.stands in
    let first = from_passes (seen.tells v.base).writes (seen.tells v.base).world v.reads b (e ∙ w) (stands_tree (seen.tells old.base) c.reads b w s.stands) (passes_front v.reads more.more b (subst (λ rs. Passes rs b) more.is (stands_passes (seen.tells old.base) c.reads b w s.stands))) in
    let ov = t.over b first in
    let same : own_of seen old ≡ own_of seen v = λ i. own (sym e i) (sym f i) in
    let lacking : lacks o l ≡ false = ap (λ y. lacks y l) t.is ∙ none-lacking seen v l b (Applied (own_of seen v) b) (subst (λ y. IsSettled l y v.reads) t.is q) (subst (λ y. Over y b (Applied (own_of seen v) b)) t.is ov) in
    ap (λ y. At y l) (s.over ∙ ap (λ es. Applied es b) same) ∙ over-shown l o b (Applied (own_of seen v) b) ov (stands_tree (seen.tells old.base) c.reads b w s.stands) lacking g ∙ val b later

-- ---- kinds of values

mapped : {X : Type 0} (make : X → Value) (l : Loc) (o : Option X) (v : Value) → ((x : X) → is_of l (make x) ≡ true) → option_map make o ≡ Some v → is_of l v ≡ true
mapped make l None v f h = absurd (subst T (sym (ap is_some h)) tt)
mapped make l (Some x) v f h = subst (λ y. is_of l y ≡ true) (let e : make x ≡ v = cc in e) (f x)

pub own-shape : (o : OverlayData) (l : Loc) (v : Value) → own_value o l ≡ Some v → is_of l v ≡ true
own-shape o (loc.Kind p) v h = mapped (λ e. value.Kind (kind_of e)) (loc.Kind p) (own_entry o.files p) v (λ x. refl) h
own-shape o (loc.Bytes p) v h = mapped (λ e. value.Bytes (bytes_of e)) (loc.Bytes p) (own_entry o.files p) v (λ x. refl) h
own-shape o (loc.Names p) v h = mapped value.Names (loc.Names p) (own_names o.files p) v (λ x. refl) h
own-shape o (loc.Var name) v h = mapped value.Var (loc.Var name) (get o.scope.vars name) v (λ x. refl) h
own-shape o (loc.Func name) v h = mapped value.Func (loc.Func name) (get o.scope.funcs name) v (λ x. refl) h
own-shape o loc.Params v h = absurd (subst T (sym (ap is_some h)) tt)
own-shape o loc.Status v h = mapped value.Status loc.Status o.status v (λ x. refl) h
own-shape o loc.Cwd v h = mapped value.Cwd loc.Cwd o.scope.cwd v (λ x. refl) h
own-shape o loc.Opts v h = mapped value.Opts loc.Opts o.scope.opts v (λ x. refl) h
own-shape o loc.Input v h = mapped value.Input loc.Input (input_of o.inputs) v (λ x. refl) h
own-shape o loc.Routes v h = mapped value.Routes loc.Routes (routes_over o.routing) v (λ x. refl) h
own-shape o loc.Ends v h = mapped value.Ends loc.Ends (ends_over 9 1 o.routing) v (λ x. refl) h
own-shape o loc.Captured v h = mapped value.Captured loc.Captured (captured_over o.routing.pushed) v (λ x. refl) h
own-shape o (loc.Kept n) v h = mapped value.Kept (loc.Kept n) (get o.scope.kept n) v (λ x. refl) h

pub over-shape : (o : OverlayData) (l : Loc) (v : Value) → is_of l v ≡ true → is_of l (over_value o l v) ≡ true
over-shape o (loc.Bytes p) (value.Bytes b) h = refl
over-shape o (loc.Names p) (value.Names ns) h = refl
over-shape o loc.Params (value.Params z ps) h = refl
over-shape o loc.Captured (value.Captured t) h = refl
over-shape o _ v h = h

untold : (l : Loc) → is_of_tables l ≡ false → (l ≡ loc.Ends → ⊥) × (l ≡ loc.Routes → ⊥)
untold l h = (λ e. subst T (sym (ap is_of_tables e) ∙ h) tt, λ e. subst T (sym (ap is_of_tables e) ∙ h) tt)

routes_not_ends : loc.Routes ≡ loc.Ends → ⊥
routes_not_ends h = cc

-- a read of the routes tells nothing of the ends
pub ends-stay : (old new : ReadList) → Untold loc.Routes old new → ends_in new ≡ ends_in old
ends-stay old new u = u.ends routes_not_ends

-- a read that tells nothing of the tables leaves them
pub tables-stay : {B : Type 0} (seen : Shows B) (v c : Viewed B) (l : Loc) (o : OverlayData) → (seen.tells c.base).writes ≡ (seen.tells v.base).writes → c.effects ≡ v.effects → Untold l v.reads c.reads → is_of_tables l ≡ false → o ≡ tables_of seen v → o ≡ tables_of seen c
tables-stay {B} seen v c l o w e un h is =
    let p = untold l h in
    is ∙ (λ i. over_all (own (sym w i) (sym e i)) (no_overlay (sym (un.ends p.0) i) (sym (un.routes p.1) i)))

read_last : (rs : ReadList) (l : Loc) (v : Value) → IsRead (rs ++ (l, v) ∷ []) l v
read_last [] l v = (0, omega arith, refl)
read_last (r ∷ rs) l v =
    let (k, m, e) = read_last rs l v in
    (suc k, omega (arith, m), e)

-- a pair that is put at the end is among the reads
pub read_pushed : (rs : ReadList) (l : Loc) (v : Value) (ss : ReadList) → ss ≡ rs ++ (l, v) ∷ [] → IsRead ss l v
read_pushed rs l v ss e = subst (λ x. IsRead x l v) (sym e) (read_last rs l v)

pub untold-same : (l : Loc) (rs ss : ReadList) → ss ≡ rs → Untold l rs ss
untold-same l rs ss e = record { ends = λ _. ap ends_in e; routes = λ _. ap routes_in e }

pub untold-pushed : (l : Loc) (v : Value) (rs ss : ReadList) → ss ≡ rs ++ (l, v) ∷ [] → Untold l rs ss
untold-pushed l v rs ss e = record { ends = λ h. ap ends_in e ∙ ends_pushed rs l v h; routes = λ h. ap routes_in e ∙ routes_pushed rs l v h }
