-- What is known of a base's tables hangs on no effect, and no push or pop hangs on what is known.
use Rattle.std.proofs.Common.{◌≡◌, ℕ, List, [], ◌∷◌, Bool, true, false, refl, sym, ap, ◌∙◌, length}
use Rattle.std.specs.Prelude.{Option, Some, None}
use Rattle.hs_world.specs.Tables.{fd_number, emitted_in}
use Rattle.hs_world.specs.declared.effect.Effect.{Effect}
use Rattle.hs_world.specs.declared.effect.Effect.TheVariants.{Emit, PopShell, SetRoutes, PopInput, PopRoutes}
use Rattle.hs_world.specs.declared.route.Route.{Route}
use Rattle.hs_world.specs.declared.route.RouteTable.{RouteTable}
use Rattle.hs_overlay.specs.Files.{no_files}
use Rattle.hs_overlay.specs.Overlay.{OverlayData, no_overlay, popped_shell, over_step, over_all, has_own, AllOwn}
use Rattle.hs_overlay.specs.Routing.{RoutingData, lead, base_end, arrived, passed_on, replaced_by, with_routes, with_saved, routes_returned}
use Rattle.hs_overlay.specs.Shells.{goes_back}
use Rattle.hs_overlay.specs.declared.routing.BaseRoutes.{BaseRoutes}
use Rattle.hs_overlay.specs.declared.shells.Saved.{Saved}

-- ---- what is known

abbrev pub Known : Type 0
Known = Option (List Route) × Option (List Route)

abbrev pub known_of : BaseRoutes → Known
known_of b = (b.ends, b.routes)

known_replaced : (routes : Option (List Route)) (pushed : List RouteTable) (b : BaseRoutes) → known_of (replaced_by routes pushed b) ≡ known_of b
known_replaced routes [] b = refl
known_replaced routes (t ∷ ts) b = refl

known_returned : (back : Bool) (saved : Option (List Route)) (r : RoutingData) → known_of (routes_returned back saved r).base ≡ known_of r.base
known_returned false saved r = refl
known_returned true None r = known_replaced None r.pushed r.base
known_returned true (Some routes) r = known_replaced (Some routes) r.pushed r.base

known_arrived : (e : Option Route) (text : List ℕ) (r : RoutingData) → known_of (arrived e text r).base ≡ known_of r.base
known_arrived None text r = refl
known_arrived (Some end) text r = refl

known_passed : (o : Option ℕ) (text : List ℕ) (r : RoutingData) → known_of (passed_on o text r).base ≡ known_of r.base
known_passed None text r = refl
known_passed (Some n) text r = known_arrived (base_end r.base n) text r

known_popped : (ss : List Saved) (o : OverlayData) → known_of (popped_shell ss o).routing.base ≡ known_of o.routing.base
known_popped [] o = refl
known_popped (s ∷ ss) o = known_returned (goes_back s (length o.routing.pushed)) s.routes o.routing

known_step : (e : Effect) (o : OverlayData) → known_of (over_step e o).routing.base ≡ known_of o.routing.base
known_step (Emit fd text) o = known_passed (lead (fd_number fd) o.routing.pushed) text (record o.routing { pushed = emitted_in (fd_number fd) text o.routing.pushed })
known_step PopShell o = known_popped o.shells o
known_step (SetRoutes routes) o = known_replaced (Some routes) o.routing.pushed o.routing.base
known_step _ o = refl

pub known-after : (es : List Effect) (o : OverlayData) → known_of (over_all es o).routing.base ≡ known_of o.routing.base
known-after [] o = refl
known-after (e ∷ es) o = known-after es (over_step e o) ∙ known_step e o

-- ---- what a push or a pop hangs on

abbrev bare_base : BaseRoutes → BaseRoutes
bare_base b = record { replaced = b.replaced; ends = None; routes = None }

abbrev bare_routing : RoutingData → RoutingData
bare_routing r = record { pushed = r.pushed; base = bare_base r.base; given = []; loose = false }

-- without what is known, what went to the base, and files
abbrev bare : OverlayData → OverlayData
bare o = record o { routing = bare_routing o.routing; files = no_files }

bare_arrived : (e : Option Route) (text : List ℕ) (r : RoutingData) → bare_routing (arrived e text r) ≡ bare_routing r
bare_arrived None text r = refl
bare_arrived (Some end) text r = refl

bare_passed : (o : Option ℕ) (text : List ℕ) (r : RoutingData) → bare_routing (passed_on o text r) ≡ bare_routing r
bare_passed None text r = refl
bare_passed (Some n) text r = bare_arrived (base_end r.base n) text r

bare_set : (routes : List Route) (pushed : List RouteTable) (base : BaseRoutes) (given : List ℕ) (loose : Bool)
    → let r : RoutingData = record { pushed = pushed; base = base; given = given; loose = loose } in bare_routing (with_routes routes r) ≡ bare_routing (with_routes routes (bare_routing r))
bare_set routes [] base given loose = refl
bare_set routes (t ∷ ts) base given loose = refl

bare_own : (pushed : List RouteTable) (base : BaseRoutes) (given : List ℕ) (loose : Bool)
    → let r : RoutingData = record { pushed = pushed; base = base; given = given; loose = loose } in bare_routing (with_saved None r) ≡ bare_routing (with_saved None (bare_routing r))
bare_own [] base given loose = refl
bare_own (t ∷ ts) base given loose = refl

bare_returned : (back : Bool) (saved : Option (List Route)) (r : RoutingData) → bare_routing (routes_returned back saved r) ≡ bare_routing (routes_returned back saved (bare_routing r))
bare_returned false saved r = refl
bare_returned true None r = bare_own r.pushed r.base r.given r.loose
bare_returned true (Some routes) r = bare_set routes r.pushed r.base r.given r.loose

bare_popped : (ss : List Saved) (o : OverlayData) → bare (popped_shell ss o) ≡ bare (popped_shell ss (bare o))
bare_popped [] o = refl
bare_popped (s ∷ ss) o = ap (λ r. record (popped_shell (s ∷ ss) o) { routing = r; files = no_files }) (bare_returned (goes_back s (length o.routing.pushed)) s.routes o.routing)

bare_emitted : (n : ℕ) (text : List ℕ) (r : RoutingData) → bare_routing (passed_on (lead n r.pushed) text (record r { pushed = emitted_in n text r.pushed })) ≡ bare_routing (passed_on (lead n r.pushed) text (record (bare_routing r) { pushed = emitted_in n text r.pushed }))
bare_emitted n text r = bare_passed (lead n r.pushed) text (record r { pushed = emitted_in n text r.pushed }) ∙ sym (bare_passed (lead n r.pushed) text (record (bare_routing r) { pushed = emitted_in n text r.pushed }))

bare_step : (e : Effect) (o : OverlayData) → bare (over_step e o) ≡ bare (over_step e (bare o))
bare_step (Emit fd text) o = ap (λ r. record o { routing = r; files = no_files }) (bare_emitted (fd_number fd) text o.routing)
bare_step PopShell o = bare_popped o.shells o
bare_step (SetRoutes routes) o = ap (λ r. record o { routing = r; files = no_files }) (bare_set routes o.routing.pushed o.routing.base o.routing.given o.routing.loose)
bare_step _ o = refl

own_bare : (e : Effect) (o : OverlayData) → has_own e (bare o) ≡ has_own e o
own_bare PopInput o = refl
own_bare PopShell o = refl
own_bare PopRoutes o = refl
own_bare _ o = refl

own_alike : (e : Effect) (o p : OverlayData) → bare o ≡ bare p → has_own e o ≡ has_own e p
own_alike e o p h = sym (own_bare e o) ∙ ap (has_own e) h ∙ own_bare e p

step_alike : (e : Effect) (o p : OverlayData) → bare o ≡ bare p → bare (over_step e o) ≡ bare (over_step e p)
step_alike e o p h = bare_step e o ∙ ap (λ x. bare (over_step e x)) h ∙ sym (bare_step e p)

all_alike : (es : List Effect) (o p : OverlayData) → bare o ≡ bare p → AllOwn es o → AllOwn es p
all_alike [] o p h a = tt
all_alike (e ∷ es) o p h a = (sym (own_alike e o p h) ∙ a.0, all_alike es (over_step e o) (over_step e p) (step_alike e o p h) a.1)

-- Pops have their pushes among the effects whatever is known of the base.
pub own-known : (es : List Effect) (ends routes ends' routes' : Option (List Route)) → AllOwn es (no_overlay ends routes) → AllOwn es (no_overlay ends' routes')
own-known es ends routes ends' routes' a = all_alike es (no_overlay ends routes) (no_overlay ends' routes') refl a

bare_after : (es : List Effect) (o p : OverlayData) → bare o ≡ bare p → bare (over_all es o) ≡ bare (over_all es p)
bare_after [] o p h = h
bare_after (e ∷ es) o p h = bare_after es (over_step e o) (over_step e p) (step_alike e o p h)

-- and so does one after them
pub own-then : (e : Effect) (es : List Effect) (ends routes ends' routes' : Option (List Route)) → has_own e (over_all es (no_overlay ends routes)) ≡ has_own e (over_all es (no_overlay ends' routes'))
own-then e es ends routes ends' routes' = own_alike e _ _ (bare_after es (no_overlay ends routes) (no_overlay ends' routes') refl)
