-- Tables of routes that effects pushed, over a base's.
use Rattle.std.proofs.Common.{◌≡◌, ℕ, ◌+◌, ◌≤◌, zero, suc, T, List, [], ◌∷◌, ◌++◌, Bool, true, false, not, ◌&&◌, refl, sym, ap, ◌∙◌, subst, append_assoc, append-nil, get_or, length, drop, arith}
use Rattle.std.specs.Prelude.{None, Some, Option, is_some, option_map, unwrap_or, ◌||◌, if◌then◌else◌}
use Rattle.std.proofs.lemmas.List.{length-append}
use Rattle.hs_world.specs.Paths.{Path}
use Rattle.hs_world.specs.Shells.{without_top}
use Rattle.hs_world.specs.Tables.{route_at, end_in, seen_in, shown_end, ends_from, ends_of, captured_in, emitted_in, is_descriptor, is_route, are_routes, has_same, may_stand, may_all_stand}
use Rattle.hs_world.specs.World.{WorldData, all_tables, file_in, is_pushed, top_or}
use Rattle.hs_world.specs.declared.route.Route.{Route}
use Rattle.hs_world.specs.declared.route.Route.TheVariants.{Stream, Same, File, Null, Closed, Capture}
use Rattle.hs_world.specs.declared.route.RouteTable.{RouteTable}
use Rattle.hs_overlay.specs.Routing.{RoutingData, no_routing, lead, end_beside, same_end, replaced_end, base_end_by, base_end, hide, seen_over, joined, ends_over, routes_over, captured_over, caught, arrived, passed_on, emitted_over, file_at, base_file, own_or, file_over, new_table, with_routes, with_saved, routes_returned, routes_of, captures_of, are_all_routes, MayStand, IsKnown, RoutingOver}
use Rattle.hs_overlay.specs.declared.routing.BaseRoutes.{BaseRoutes}
use Rattle.hs_overlay.proofs.Piles.{whole}
use Rattle.hs_overlay.proofs.TableLaws.{both_left, both_right, both_true, no_some, passed_to, emitted-append, routes-emitted, captures-emitted, fit-emitted, seen-alone, end_at, at_fits, lead_fits, seen-alike, file-seen, end-own, end-below, captured-own, captured-below, captured-emitted, stand_at, same_down, stand_down, beside, beside_found}

-- ---- where a base's descriptors lead

same_seen : (ends routes : Option (List Route)) (b : WorldData) (u : RouteTable) (us : List RouteTable) (k : ℕ) (end : Route)
    → routes_of us ≡ routes_of b.tables → is_some u.capture ≡ is_some b.table.capture → captures_of us ≡ captures_of b.tables
    → ((es : List Route) → ends ≡ Some es → es ≡ ends_of (all_tables b)) → ((rs : List Route) → routes ≡ Some rs → rs ≡ b.table.routes)
    → same_end ends routes k ≡ Some end → seen_in (is_some u.capture) k us ≡ end
same_seen None routes b u us k end e c f ke kr g = absurd (no_some end (sym g))
same_seen (Some es) None b u us k end e c f ke kr g = absurd (no_some end (sym g))
same_seen (Some es) (Some rs) b u us k end e c f ke kr g =
    seen-alike (is_some u.capture) k us b.tables e f
    ∙ ap (λ x. seen_in x k b.tables) c
    ∙ beside k b.table.routes 9 0 b.table b.tables end (λ i _. ap (λ x. get_or b.table.routes x Closed) (let z : i + 0 ≡ i = omega arith in z)) ((λ i. end_beside k (sym (kr rs refl) i) (sym (ke es refl) i)) ∙ g)

replaced_seen : (ends routes : Option (List Route)) (b : WorldData) (u : RouteTable) (us : List RouteTable) (r end : Route)
    → routes_of us ≡ routes_of b.tables → is_some u.capture ≡ is_some b.table.capture → captures_of us ≡ captures_of b.tables
    → ((es : List Route) → ends ≡ Some es → es ≡ ends_of (all_tables b)) → ((rs : List Route) → routes ≡ Some rs → rs ≡ b.table.routes)
    → may_stand b.table r ≡ true → replaced_end ends routes r ≡ Some end
    → (elim r [ Same m ↦ seen_in (false || is_some u.capture) m us | Stream fd ↦ Stream fd | File p ↦ File p | Null ↦ Null | Closed ↦ Closed | Capture ↦ shown_end (not false && is_some u.capture) ]) ≡ end
replaced_seen ends routes b u us (Same k) end e c f ke kr m g = same_seen ends routes b u us k end e c f ke kr g
replaced_seen ends routes b u us Capture end e c f ke kr m g = let x : Capture ≡ end = cc in ap shown_end (c ∙ m) ∙ x
replaced_seen ends routes b u us (Stream fd) end e c f ke kr m g = cc
replaced_seen ends routes b u us (File p) end e c f ke kr m g = cc
replaced_seen ends routes b u us Null end e c f ke kr m g = cc
replaced_seen ends routes b u us Closed end e c f ke kr m g = cc

under_seen : (rep ends routes : Option (List Route)) (b : WorldData) (under : List RouteTable) (m : ℕ) (end : Route)
    → routes_of under ≡ unwrap_or rep b.table.routes ∷ routes_of b.tables → captures_of under ≡ captures_of (all_tables b)
    → ((rs : List Route) → rep ≡ Some rs → MayStand b rs)
    → ((es : List Route) → ends ≡ Some es → es ≡ ends_of (all_tables b)) → ((rs : List Route) → routes ≡ Some rs → rs ≡ b.table.routes)
    → is_descriptor m ≡ true → base_end_by rep ends routes m ≡ Some end → seen_in false m under ≡ end
under_seen None None routes b under m end e f st ke kr d g = absurd (no_some end (sym g))
under_seen None (Some es) routes b under m end e f st ke kr d g =
    let led : route_at m es ≡ end = cc in
    seen-alike false m under (all_tables b) e f ∙ sym (end_at m (all_tables b) d) ∙ ap (route_at m) (sym (ke es refl)) ∙ led
under_seen (Some rs) ends routes b [] m end e f st ke kr d g = cc
under_seen (Some rs) ends routes b (u ∷ us) m end e f st ke kr d g =
    let r : u.routes ≡ rs = cc in
    let us_routes : routes_of us ≡ routes_of b.tables = cc in
    let c : is_some u.capture ≡ is_some b.table.capture = cc in
    let cs : captures_of us ≡ captures_of b.tables = cc in
    let m_stands = stand_at b.table m rs (st rs refl).stand in
    ap (λ x. elim (route_at m x) [ Same k ↦ seen_in (false || is_some u.capture) k us | Stream fd ↦ Stream fd | File p ↦ File p | Null ↦ Null | Closed ↦ Closed | Capture ↦ shown_end (not false && is_some u.capture) ]) r
    ∙ replaced_seen ends routes b u us (route_at m rs) end us_routes c cs ke kr m_stands g

-- What is known of where a base's descriptor leads is what is seen.
pub base-seen : (r : RoutingData) (b : WorldData) (ts : List RouteTable) (h : RoutingOver r b ts) (m : ℕ) (end : Route) → is_descriptor m ≡ true → base_end r.base m ≡ Some end → seen_in false m h.under ≡ end
base-seen r b ts h m end d g = under_seen r.base.replaced r.base.ends r.base.routes b h.under m end h.below h.open_below h.stand h.known.ends h.known.routes d g

known_route : (b : WorldData) (es rs : List Route) (r : Route) → es ≡ ends_of (all_tables b) → rs ≡ b.table.routes → length rs ≤ 9 → may_stand b.table r ≡ true → replaced_end (Some es) (Some rs) r ≡ None → ⊥
known_route b es rs (Same k) e f l m g = beside_found k b.table.routes 9 1 (all_tables b) m (subst (λ x. length x ≤ 9) f l) ((λ i. end_beside k (sym f i) (sym e i)) ∙ g)
known_route b es rs (Stream fd) e f l m g = no_some (Stream fd) g
known_route b es rs (File p) e f l m g = no_some (File p) g
known_route b es rs Null e f l m g = no_some Null g
known_route b es rs Closed e f l m g = no_some Closed g
known_route b es rs Capture e f l m g = no_some Capture g

known_end : (rep : Option (List Route)) (b : WorldData) (es rs : List Route) (m : ℕ) → ((x : List Route) → rep ≡ Some x → MayStand b x) → es ≡ ends_of (all_tables b) → rs ≡ b.table.routes → length rs ≤ 9 → base_end_by rep (Some es) (Some rs) m ≡ None → ⊥
known_end None b es rs m st e f l g = no_some (route_at m es) g
known_end (Some x) b es rs m st e f l g = known_route b es rs (route_at m x) e f l (stand_at b.table m x (st x refl).stand) g

-- With both told, each descriptor's end is known.
pub all-known : (r : RoutingData) (b : WorldData) (ts : List RouteTable) → RoutingOver r b ts → (es rs : List Route) → r.base.ends ≡ Some es → r.base.routes ≡ Some rs → length rs ≤ 9 → (m : ℕ) → base_end r.base m ≡ None → ⊥
all-known r b ts h es rs e f l m g =
    known_end r.base.replaced b es rs m h.stand (h.known.ends es e) (h.known.routes rs f) l ((λ i. base_end_by r.base.replaced (sym e i) (sym f i) m) ∙ g)

-- ---- a text goes to a descriptor

arrived_known : (e : Option Route) (text : List ℕ) (r : RoutingData) → (arrived e text r).base ≡ r.base
arrived_known (Some end) text r = refl
arrived_known None text r = refl

pass_law : (e : Option Route) (m : ℕ) (text : List ℕ) (r : RoutingData) (own under : List RouteTable) (b : WorldData) (ts : List RouteTable) (h : RoutingOver r b ts)
    → is_descriptor m ≡ true → base_end r.base m ≡ e → are_all_routes own ≡ true → RoutingOver (arrived e text (record r { pushed = own })) b (own ++ emitted_in m text h.under)
pass_law (Some end) m text r own under b ts h d g fit = record {
  under = emitted_in m text h.under;
  is = refl;
  below = routes-emitted m text h.under ∙ h.below;
  open_below = captures-emitted m text h.under ∙ h.open_below;
  taken = λ l. captured-emitted m text h.under
      ∙ (λ i. h.taken l i ++ caught (base-seen r b ts h m end d g i) text)
      ∙ append_assoc (captured_in (all_tables b)) r.given (caught end text);
  fit = fit;
  stand = h.stand;
  known = h.known;
  tight = h.tight;
}
pass_law None m text r own under b ts h d g fit = record {
  under = emitted_in m text h.under;
  is = refl;
  below = routes-emitted m text h.under ∙ h.below;
  open_below = captures-emitted m text h.under ∙ h.open_below;
  taken = λ l. absurd (subst T l tt);
  fit = fit;
  stand = h.stand;
  known = h.known;
  tight = λ es rs e f l. absurd (all-known r b ts h es rs e f l m g);
}

passed_law : (o : Option ℕ) (n : ℕ) (text : List ℕ) (r : RoutingData) (b : WorldData) (ts : List RouteTable) (h : RoutingOver r b ts)
    → is_descriptor n ≡ true → lead n r.pushed ≡ o → RoutingOver (passed_on o text (record r { pushed = emitted_in n text r.pushed })) b (emitted_in n text r.pushed ++ passed_to o text h.under)
passed_law None n text r b ts h d g = record {
  under = h.under;
  is = refl;
  below = h.below;
  open_below = h.open_below;
  taken = h.taken;
  fit = fit-emitted n text r.pushed ∙ h.fit;
  stand = h.stand;
  known = h.known;
  tight = h.tight;
}
passed_law (Some m) n text r b ts h d g = pass_law (base_end r.base m) m text r (emitted_in n text r.pushed) h.under b ts h (lead_fits n m r.pushed d h.fit g) refl (fit-emitted n text r.pushed ∙ h.fit)

pub emit-law : (n : ℕ) (text : List ℕ) (r : RoutingData) (b : WorldData) (ts : List RouteTable) → is_descriptor n ≡ true → RoutingOver r b ts → RoutingOver (emitted_over n text r) b (emitted_in n text ts)
emit-law n text r b ts d h =
    let e : emitted_in n text r.pushed ++ passed_to (lead n r.pushed) text h.under ≡ emitted_in n text ts = sym (ap (emitted_in n text) h.is ∙ emitted-append n text r.pushed h.under) in
    subst (λ xs. RoutingOver (emitted_over n text r) b xs) e (passed_law (lead n r.pushed) n text r b ts h d refl)

-- ---- the file that a text goes to

-- The file is known, or bytes go nobody knows where.
pub data Arrives (r : RoutingData) (n : ℕ) (text : List ℕ) (end : Route) : Type 0 where
  At : file_over n r ≡ file_in end → (emitted_over n text r).loose ≡ r.loose → Arrives r n text end
  Somewhere : file_over n r ≡ None → (emitted_over n text r).loose ≡ true → Arrives r n text end

file_below : (r : RoutingData) (b : WorldData) (ts : List RouteTable) (h : RoutingOver r b ts) (n m : ℕ) (text : List ℕ) (e : Option Route) → is_descriptor m ≡ true → lead n r.pushed ≡ Some m → base_end r.base m ≡ e → Arrives r n text (end_in n ts)
file_below r b ts h n m text (Some end) d g f =
    let pair = end-below n m r.pushed h.under g in
    let far : file_in (end_in n ts) ≡ file_in end = ap (λ xs. file_in (end_in n xs)) h.is ∙ ap file_in pair.0 ∙ file-seen false m h.under ∙ ap file_in (base-seen r b ts h m end d f) in
    let own : file_over n r ≡ file_in end = (λ i. own_or (file_in (pair.1 i)) (base_file r (g i))) ∙ ap file_at f in
    At (own ∙ sym far) ((λ i. (passed_on (g i) text (record r { pushed = emitted_in n text r.pushed })).loose) ∙ ap (λ x. (arrived x text (record r { pushed = emitted_in n text r.pushed })).loose) f)
file_below r b ts h n m text None d g f =
    let pair = end-below n m r.pushed h.under g in
    Somewhere ((λ i. own_or (file_in (pair.1 i)) (base_file r (g i))) ∙ ap file_at f)
    ((λ i. (passed_on (g i) text (record r { pushed = emitted_in n text r.pushed })).loose) ∙ ap (λ x. (arrived x text (record r { pushed = emitted_in n text r.pushed })).loose) f)

own_alone : (o : Option Path) → own_or o None ≡ o
own_alone None = refl
own_alone (Some p) = refl

file_by : (o : Option ℕ) (r : RoutingData) (b : WorldData) (ts : List RouteTable) (h : RoutingOver r b ts) (n : ℕ) (text : List ℕ) → is_descriptor n ≡ true → lead n r.pushed ≡ o → Arrives r n text (end_in n ts)
file_by None r b ts h n text d g =
    At (ap (λ o. own_or (file_in (end_in n r.pushed)) (base_file r o)) g ∙ own_alone (file_in (end_in n r.pushed)) ∙ ap file_in (sym (ap (end_in n) h.is ∙ end-own n r.pushed h.under g)))
    (ap (λ o. (passed_on o text (record r { pushed = emitted_in n text r.pushed })).loose) g)
file_by (Some m) r b ts h n text d g = file_below r b ts h n m text (base_end r.base m) (lead_fits n m r.pushed d h.fit g) g refl

pub file-law : (r : RoutingData) (b : WorldData) (ts : List RouteTable) → RoutingOver r b ts → (n : ℕ) (text : List ℕ) → is_descriptor n ≡ true → Arrives r n text (end_in n ts)
file-law r b ts h n text d = file_by (lead n r.pushed) r b ts h n text d refl

-- ---- tables come and go

pub push-law : (r : RoutingData) (b : WorldData) (ts : List RouteTable) (routes : List Route) → are_routes routes ≡ true → RoutingOver r b ts → RoutingOver (record r { pushed = new_table routes ∷ r.pushed }) b (new_table routes ∷ ts)
push-law r b ts routes f h = record {
  under = h.under;
  is = ap (λ l. new_table routes ∷ l) h.is;
  below = h.below;
  open_below = h.open_below;
  taken = h.taken;
  fit = both_true (are_routes routes) _ f h.fit;
  stand = h.stand;
  known = h.known;
  tight = h.tight;
}

under_some : (us : List RouteTable) (x : List Route) (xs : List (List Route)) → routes_of us ≡ x ∷ xs → 1 ≤ length us
under_some [] x xs h = absurd (let n = ap length h in omega (arith, n))
under_some (u ∷ us) x xs h = omega arith

pop_by : (pushed : List RouteTable) (base : BaseRoutes) (given : List ℕ) (loose : Bool) (b : WorldData) (t : RouteTable) (ts : List RouteTable) → is_pushed pushed ≡ true
    → let r : RoutingData = record { pushed = pushed; base = base; given = given; loose = loose } in RoutingOver r b (t ∷ ts) → RoutingOver (record r { pushed = drop 1 pushed }) b (top_or t ts ∷ without_top ts)
pop_by [] base given loose b t ts v h = absurd (subst T (sym v) tt)
pop_by (p ∷ ps) base given loose b t ts v h =
    let e : ts ≡ ps ++ h.under = let i : t ∷ ts ≡ p ∷ (ps ++ h.under) = h.is in cc in
    let l : 1 ≤ length ts = let n = ap length e ∙ length-append ps h.under in let u = under_some h.under _ _ h.below in omega (arith, n, u) in
    record {
      under = h.under;
      is = whole t ts l ∙ e;
      below = h.below;
      open_below = h.open_below;
      taken = h.taken;
      fit = both_right (are_routes p.routes) _ h.fit;
      stand = h.stand;
      known = h.known;
      tight = h.tight;
    }

pub pop-law : (r : RoutingData) (b : WorldData) (t : RouteTable) (ts : List RouteTable) → is_pushed r.pushed ≡ true → RoutingOver r b (t ∷ ts) → RoutingOver (record r { pushed = drop 1 r.pushed }) b (top_or t ts ∷ without_top ts)
pop-law r b t ts v h = pop_by r.pushed r.base r.given r.loose b t ts v h

set_by : (pushed : List RouteTable) (base : BaseRoutes) (given : List ℕ) (loose : Bool) (b : WorldData) (t : RouteTable) (ts : List RouteTable) (routes : List Route) → are_routes routes ≡ true → (pushed ≡ [] → MayStand b routes)
    → let r : RoutingData = record { pushed = pushed; base = base; given = given; loose = loose } in RoutingOver r b (t ∷ ts) → RoutingOver (with_routes routes r) b (record t { routes = routes } ∷ ts)
set_by [] base given loose b t ts routes f st h =
    let i : t ∷ ts ≡ h.under = h.is in
    let rest : routes_of ts ≡ routes_of b.tables = let e : t.routes ∷ routes_of ts ≡ unwrap_or base.replaced b.table.routes ∷ routes_of b.tables = ap routes_of i ∙ h.below in cc in
    record {
      under = record t { routes = routes } ∷ ts;
      is = refl;
      below = ap (λ l. routes ∷ l) rest;
      open_below = ap captures_of i ∙ h.open_below;
      taken = λ l. ap captured_in i ∙ h.taken l;
      fit = refl;
      stand = λ rs e. let s : routes ≡ rs = cc in subst (MayStand b) s (st refl);
      known = record { ends = h.known.ends; routes = h.known.routes };
      tight = h.tight;
    }
set_by (p ∷ ps) base given loose b t ts routes f st h =
    let i : t ∷ ts ≡ p ∷ (ps ++ h.under) = h.is in
    let top : t ≡ p = cc in
    let e : ts ≡ ps ++ h.under = cc in
    record {
      under = h.under;
      is = λ j. record (top j) { routes = routes } ∷ e j;
      below = h.below;
      open_below = h.open_below;
      taken = h.taken;
      fit = both_true (are_routes routes) _ f (both_right (are_routes p.routes) _ h.fit);
      stand = h.stand;
      known = h.known;
      tight = h.tight;
    }

pub set-law : (r : RoutingData) (b : WorldData) (t : RouteTable) (ts : List RouteTable) (routes : List Route) → are_routes routes ≡ true → (r.pushed ≡ [] → MayStand b routes) → RoutingOver r b (t ∷ ts) → RoutingOver (with_routes routes r) b (record t { routes = routes } ∷ ts)
set-law r b t ts routes f st h = set_by r.pushed r.base r.given r.loose b t ts routes f st h

base_same : (rep : Option (List Route)) (b : WorldData) (now : List Route) (n : ℕ) → ((rs : List Route) → rep ≡ Some rs → MayStand b rs) → now ≡ unwrap_or rep b.table.routes → has_same n now ≡ true → has_same n b.table.routes ≡ true
base_same None b now n st e h = subst (λ x. has_same n x ≡ true) e h
base_same (Some rs) b now n st e h = same_down b.table n rs (st rs refl).stand (subst (λ x. has_same n x ≡ true) e h)

stand_by : (pushed : List RouteTable) (base : BaseRoutes) (given : List ℕ) (loose : Bool) (b : WorldData) (t : RouteTable) (ts : List RouteTable) (routes : List Route) → are_routes routes ≡ true → may_all_stand t routes ≡ true
    → RoutingOver (record { pushed = pushed; base = base; given = given; loose = loose }) b (t ∷ ts) → pushed ≡ [] → MayStand b routes
stand_by (p ∷ ps) base given loose b t ts routes f m h none = absurd (let n = ap length none in omega (arith, n))
stand_by [] base given loose b t ts routes f m h none =
    let i : t ∷ ts ≡ h.under = h.is in
    let e : t.routes ∷ routes_of ts ≡ unwrap_or base.replaced b.table.routes ∷ routes_of b.tables = ap routes_of i ∙ h.below in
    let c : is_some t.capture ∷ captures_of ts ≡ is_some b.table.capture ∷ captures_of b.tables = ap captures_of i ∙ h.open_below in
    let here : t.routes ≡ unwrap_or base.replaced b.table.routes = cc in
    let opened : is_some t.capture ≡ is_some b.table.capture = cc in
    record { fit = f; stand = stand_down t b.table routes opened (λ n s. base_same base.replaced b t.routes n h.stand here s) m }

-- Routes that are valid in place of the innermost ones may stand in place of the base's, where none was pushed.
pub stand-law : (r : RoutingData) (b : WorldData) (t : RouteTable) (ts : List RouteTable) (routes : List Route) → are_routes routes ≡ true → may_all_stand t routes ≡ true → RoutingOver r b (t ∷ ts) → r.pushed ≡ [] → MayStand b routes
stand-law r b t ts routes f m h none = stand_by r.pushed r.base r.given r.loose b t ts routes f m h none

-- the base's own routes come back
own_by : (pushed : List RouteTable) (base : BaseRoutes) (given : List ℕ) (loose : Bool) (b : WorldData) (t : RouteTable) (ts : List RouteTable) → pushed ≡ []
    → let r : RoutingData = record { pushed = pushed; base = base; given = given; loose = loose } in RoutingOver r b (t ∷ ts) → RoutingOver (with_saved None r) b (record t { routes = b.table.routes } ∷ ts)
own_by (p ∷ ps) base given loose b t ts none h = absurd (let n = ap length none in omega (arith, n))
own_by [] base given loose b t ts none h =
    let i : t ∷ ts ≡ h.under = h.is in
    let rest : routes_of ts ≡ routes_of b.tables = let e : t.routes ∷ routes_of ts ≡ unwrap_or base.replaced b.table.routes ∷ routes_of b.tables = ap routes_of i ∙ h.below in cc in
    record {
      under = record t { routes = b.table.routes } ∷ ts;
      is = refl;
      below = ap (λ l. b.table.routes ∷ l) rest;
      open_below = ap captures_of i ∙ h.open_below;
      taken = λ l. ap captured_in i ∙ h.taken l;
      fit = refl;
      stand = λ rs e. absurd (no_some rs (sym e));
      known = record { ends = h.known.ends; routes = h.known.routes };
      tight = h.tight;
    }

pub returned-law : (back : Bool) (saved : Option (List Route)) (r : RoutingData) (b : WorldData) (t : RouteTable) (ts : List RouteTable)
    → ((rs : List Route) → saved ≡ Some rs → are_routes rs ≡ true) → ((rs : List Route) → saved ≡ Some rs → back ≡ true → r.pushed ≡ [] → MayStand b rs) → (saved ≡ None → back ≡ true → r.pushed ≡ [])
    → RoutingOver r b (t ∷ ts) → RoutingOver (routes_returned back saved r) b (record t { routes = if back then unwrap_or saved b.table.routes else t.routes } ∷ ts)
returned-law false saved r b t ts f st own h = h
returned-law true (Some rs) r b t ts f st own h = set-law r b t ts rs (f rs refl) (st rs refl refl) h
returned-law true None r b t ts f st own h = own_by r.pushed r.base r.given r.loose b t ts (own refl refl) h

pub routing_start : (w : WorldData) (ends routes : Option (List Route)) → IsKnown (record { replaced = None; ends = ends; routes = routes }) w → RoutingOver (no_routing ends routes) w (all_tables w)
routing_start w ends routes k = record {
  under = all_tables w;
  is = refl;
  below = refl;
  open_below = refl;
  taken = λ _. sym (append-nil (captured_in (all_tables w)));
  fit = refl;
  stand = λ rs e. absurd (no_some rs (sym e));
  known = k;
  tight = λ _ _ _ _ _. refl;
}

-- ---- what is shown

hidden_some : (h : Bool) (o : Option Route) (end : Route) → option_map (hide h) o ≡ Some end → (e : Route) × (o ≡ Some e) × (hide h e ≡ end)
hidden_some h None end g = absurd (no_some end (sym g))
hidden_some h (Some e) end g = (e, refl, (let x : hide h e ≡ end = cc in x))

seen_by : (r : RoutingData) (b : WorldData) (ts : List RouteTable) (h : RoutingOver r b ts) (hidden : Bool) (n : ℕ) (own : List RouteTable) (end : Route)
    → is_descriptor n ≡ true → are_all_routes own ≡ true → seen_over hidden n own r.base ≡ Some end → seen_in hidden n (own ++ h.under) ≡ end
seen_by r b ts h hidden n [] end d f g =
    let x = hidden_some hidden (base_end r.base n) end g in
    seen-alone hidden n h.under ∙ ap (hide hidden) (base-seen r b ts h n x.0 d x.1) ∙ x.2
seen_by r b ts h hidden n (t ∷ us) end d f g =
    elim (route_at n t.routes) as (λ x. is_route x ≡ true → (elim x [
      | Same m ↦ seen_over (hidden || is_some t.capture) m us r.base
      | Stream fd ↦ Some (Stream fd)
      | File p ↦ Some (File p)
      | Null ↦ Some Null
      | Closed ↦ Some Closed
      | Capture ↦ Some (shown_end (not hidden && is_some t.capture))
    ]) ≡ Some end → (elim x [
      | Same m ↦ seen_in (hidden || is_some t.capture) m (us ++ h.under)
      | Stream fd ↦ Stream fd
      | File p ↦ File p
      | Null ↦ Null
      | Closed ↦ Closed
      | Capture ↦ shown_end (not hidden && is_some t.capture)
    ]) ≡ end) [
      | Same m ↦ λ s k. seen_by r b ts h (hidden || is_some t.capture) m us end s (both_right (are_routes t.routes) _ f) k
      | Stream fd ↦ λ s k. let e : Stream fd ≡ end = cc in e
      | File p ↦ λ s k. let e : File p ≡ end = cc in e
      | Null ↦ λ s k. let e : Null ≡ end = cc in e
      | Closed ↦ λ s k. let e : Closed ≡ end = cc in e
      | Capture ↦ λ s k. let e : shown_end (not hidden && is_some t.capture) ≡ end = cc in e
    ] (at_fits n t.routes (both_left (are_routes t.routes) _ f)) g

joined_some : (o : Option Route) (rs : Option (List Route)) (es : List Route) → joined o rs ≡ Some es → (e : Route) × (rest : List Route) × (o ≡ Some e) × (rs ≡ Some rest) × (e ∷ rest ≡ es)
joined_some None rs es g = absurd (no_some es (sym g))
joined_some (Some r) None es g = absurd (no_some es (sym g))
joined_some (Some r) (Some rs) es g = (r, rs, refl, refl, (let x : r ∷ rs ≡ es = cc in x))

abbrev AllDescriptors : ℕ → ℕ → Type 0
AllDescriptors k n = (i : ℕ) → i + 1 ≤ k → is_descriptor (n + i) ≡ true

ends_by : (k n : ℕ) (r : RoutingData) (b : WorldData) (ts : List RouteTable) (h : RoutingOver r b ts) (es : List Route) → AllDescriptors k n → ends_over k n r ≡ Some es → ends_from k n ts ≡ es
ends_by zero n r b ts h es d g = let e : [] ≡ es = cc in e
ends_by (suc k) n r b ts h es d g =
    let x = joined_some (seen_over false n r.pushed r.base) (ends_over k (suc n) r) es g in
    let here : is_descriptor n ≡ true = ap is_descriptor (let z : n ≡ n + 0 = omega arith in z) ∙ d 0 (omega arith) in
    let first : seen_in false n ts ≡ x.0 = ap (seen_in false n) h.is ∙ seen_by r b ts h false n r.pushed x.0 here h.fit x.2 in
    let rest : ends_from k (suc n) ts ≡ x.1 = ends_by k (suc n) r b ts h x.1 (λ i l. ap is_descriptor (let z : suc n + i ≡ n + suc i = omega arith in z) ∙ d (suc i) (omega (arith, l))) x.3 in
    (λ i. first i ∷ rest i) ∙ x.4

nine : AllDescriptors 9 1
nine zero l = refl
nine (suc zero) l = refl
nine (suc (suc zero)) l = refl
nine (suc (suc (suc zero))) l = refl
nine (suc (suc (suc (suc zero)))) l = refl
nine (suc (suc (suc (suc (suc zero))))) l = refl
nine (suc (suc (suc (suc (suc (suc zero)))))) l = refl
nine (suc (suc (suc (suc (suc (suc (suc zero))))))) l = refl
nine (suc (suc (suc (suc (suc (suc (suc (suc zero)))))))) l = refl
nine (suc (suc (suc (suc (suc (suc (suc (suc (suc n))))))))) l = absurd (omega (arith, l))

pub ends-law : (r : RoutingData) (b : WorldData) (ts : List RouteTable) → RoutingOver r b ts → (es : List Route) → ends_over 9 1 r ≡ Some es → ends_of ts ≡ es
ends-law r b ts h es g = ends_by 9 1 r b ts h es nine g

routes_by : (pushed : List RouteTable) (base : BaseRoutes) (given : List ℕ) (loose : Bool) (b : WorldData) (t : RouteTable) (ts : List RouteTable)
    → let r : RoutingData = record { pushed = pushed; base = base; given = given; loose = loose } in RoutingOver r b (t ∷ ts) → t.routes ≡ unwrap_or (routes_over r) b.table.routes
routes_by [] base given loose b t ts h =
    let e : t.routes ∷ routes_of ts ≡ unwrap_or base.replaced b.table.routes ∷ routes_of b.tables = ap routes_of h.is ∙ h.below in
    let x : t.routes ≡ unwrap_or base.replaced b.table.routes = cc in x
routes_by (p ∷ ps) base given loose b t ts h = let i : t ∷ ts ≡ p ∷ (ps ++ h.under) = h.is in let x : t ≡ p = cc in ap (λ y. y.routes) x

pub routes-law : (r : RoutingData) (b : WorldData) (t : RouteTable) (ts : List RouteTable) → RoutingOver r b (t ∷ ts) → t.routes ≡ unwrap_or (routes_over r) b.table.routes
routes-law r b t ts h = routes_by r.pushed r.base r.given r.loose b t ts h

pub captured-law : (r : RoutingData) (b : WorldData) (ts : List RouteTable) → RoutingOver r b ts → (text : List ℕ) → captured_over r.pushed ≡ Some text → captured_in ts ≡ text
captured-law r b ts h text g = ap captured_in h.is ∙ captured-own r.pushed h.under text g

pub captured-base : (r : RoutingData) (b : WorldData) (ts : List RouteTable) → RoutingOver r b ts → captured_over r.pushed ≡ None → r.loose ≡ false → captured_in ts ≡ captured_in (all_tables b) ++ r.given
captured-base r b ts h g l = ap captured_in h.is ∙ captured-below r.pushed h.under g ∙ h.taken l

routes_length : (ts : List RouteTable) → length (routes_of ts) ≡ length ts
routes_length [] = refl
routes_length (t ∷ ts) = ap suc (routes_length ts)

lengths : (us : List RouteTable) (vs : List (List Route)) → routes_of us ≡ vs → length us ≡ length vs
lengths us vs h = sym (routes_length us) ∙ ap length h

pub tables-depth : (r : RoutingData) (b : WorldData) (t : RouteTable) (ts : List RouteTable) → RoutingOver r b (t ∷ ts) → length ts ≡ length r.pushed + length b.tables
tables-depth r b t ts h =
    let a = ap length h.is ∙ length-append r.pushed h.under in
    let u = lengths h.under (unwrap_or r.base.replaced b.table.routes ∷ routes_of b.tables) h.below in
    let n = routes_length b.tables in
    omega (arith, a, u, n)
