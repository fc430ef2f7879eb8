-- What effects make of the tables of routes, and where what goes to a descriptor goes.
use Rattle.std.specs.Prelude.{◌≡◌, ◌≤◌, ℕ, zero, suc, Bool, true, false, not, ◌&&◌, ◌||◌, is_some, List, [], ◌∷◌, ◌++◌, Option, Some, None, option_map, map, unwrap_or, length}
use Rattle.hs_world.specs.Paths.{Path}
use Rattle.hs_world.specs.Tables.{route_at, end_in, shown_end, ends_of, captured_in, emitted_in, has_capture, opened, are_routes, may_all_stand, is_same}
use Rattle.hs_world.specs.World.{WorldData, all_tables, file_in}
use Rattle.hs_world.specs.declared.route.Route.{Route}
use Rattle.hs_world.specs.declared.route.Route.TheVariants.{Stream, Same, File, Null, Closed, Capture}
use Rattle.hs_world.specs.declared.route.RouteTable.{RouteTable}
use Rattle.hs_overlay.specs.declared.routing.BaseRoutes.{BaseRoutes}

pub record RoutingData : Type 0 where
  -- the tables that the effects pushed, the innermost first
  pub pushed : List RouteTable
  pub base : BaseRoutes
  -- what the base's innermost capture has taken up
  pub given : List ℕ
  -- whether bytes went by one of the base's descriptors while nobody knew where it leads
  pub loose : Bool

abbrev pub no_routing : Option (List Route) → Option (List Route) → RoutingData
no_routing ends routes = record { pushed = []; base = record { replaced = None; ends = ends; routes = routes }; given = []; loose = false }

-- ---- where a descriptor leads

-- the descriptor by which one leads below these tables, if it does
abbrev pub lead : ℕ → List RouteTable → Option ℕ
lead n [] = Some n
lead n (t ∷ ts) = elim (route_at n t.routes) [ Same m ↦ lead m ts | Stream fd ↦ None | File p ↦ None | Null ↦ None | Closed ↦ None | Capture ↦ None ]

-- the end at the place of a table where this `Same` stands
abbrev pub end_beside : ℕ → List Route → List Route → Option Route
end_beside n [] ends = None
end_beside n (r ∷ rs) [] = None
end_beside n (r ∷ rs) (e ∷ es) = elim (is_same n r) [ true ↦ Some e | false ↦ end_beside n rs es ]

abbrev pub same_end : Option (List Route) → Option (List Route) → ℕ → Option Route
same_end None routes n = None
same_end (Some ends) None n = None
same_end (Some ends) (Some routes) n = end_beside n routes ends

-- A route that stands in place of one of the base's table: a `Same` leads where it led there.
abbrev pub replaced_end : Option (List Route) → Option (List Route) → Route → Option Route
replaced_end ends routes (Same n) = same_end ends routes n
replaced_end ends routes (Stream fd) = Some (Stream fd)
replaced_end ends routes (File p) = Some (File p)
replaced_end ends routes Null = Some Null
replaced_end ends routes Closed = Some Closed
replaced_end ends routes Capture = Some Capture

abbrev pub base_end_by : Option (List Route) → Option (List Route) → Option (List Route) → ℕ → Option Route
base_end_by None ends routes n = option_map (route_at n) ends
base_end_by (Some table) ends routes n = replaced_end ends routes (route_at n table)

-- where one of the base's descriptors leads, as far as that is known
abbrev pub base_end : BaseRoutes → ℕ → Option Route
base_end b n = base_end_by b.replaced b.ends b.routes n

-- a capture that another one stands above is seen as nowhere
abbrev pub hide : Bool → Route → Route
hide true Capture = Null
hide true (Stream fd) = Stream fd
hide true (Same m) = Same m
hide true (File p) = File p
hide true Null = Null
hide true Closed = Closed
hide false r = r

-- where a descriptor leads in the end, as it is seen, over what is known of the tables below these
abbrev pub seen_over : Bool → ℕ → List RouteTable → BaseRoutes → Option Route
seen_over hidden n [] b = option_map (hide hidden) (base_end b n)
seen_over hidden n (t ∷ ts) b = elim (route_at n t.routes) [
  | Same m ↦ seen_over (hidden || is_some t.capture) m ts b
  | Stream fd ↦ Some (Stream fd)
  | File p ↦ Some (File p)
  | Null ↦ Some Null
  | Closed ↦ Some Closed
  | Capture ↦ Some (shown_end (not hidden && is_some t.capture))
]

abbrev pub joined : Option Route → Option (List Route) → Option (List Route)
joined None rs = None
joined (Some r) None = None
joined (Some r) (Some rs) = Some (r ∷ rs)

-- as many descriptors, from this one on
abbrev pub ends_over : ℕ → ℕ → RoutingData → Option (List Route)
ends_over zero n r = Some []
ends_over (suc k) n r = joined (seen_over false n r.pushed r.base) (ends_over k (suc n) r)

-- the routes of the innermost table, where they are not the base's own
abbrev pub routes_over : RoutingData → Option (List Route)
routes_over r = elim r.pushed [ [] ↦ r.base.replaced | t ∷ ts ↦ Some t.routes ]

-- what the innermost capture that the effects opened has taken up
abbrev pub captured_over : List RouteTable → Option (List ℕ)
captured_over [] = None
captured_over (t ∷ ts) = elim t.capture [ Some text ↦ Some text | None ↦ captured_over ts ]

-- ---- what goes to a descriptor

-- what a base's innermost capture takes up of a text that goes to one of its ends
abbrev pub caught : Route → List ℕ → List ℕ
caught Capture text = text
caught _ text = []

abbrev pub arrived : Option Route → List ℕ → RoutingData → RoutingData
arrived (Some end) text r = record r { given = r.given ++ caught end text }
arrived None text r = record r { loose = true }

-- a text goes below the tables that were pushed, if it does
abbrev pub passed_on : Option ℕ → List ℕ → RoutingData → RoutingData
passed_on None text r = r
passed_on (Some n) text r = arrived (base_end r.base n) text r

abbrev pub emitted_over : ℕ → List ℕ → RoutingData → RoutingData
emitted_over n text r = passed_on (lead n r.pushed) text (record r { pushed = emitted_in n text r.pushed })

abbrev pub file_at : Option Route → Option Path
file_at None = None
file_at (Some end) = file_in end

abbrev pub base_file : RoutingData → Option ℕ → Option Path
base_file r None = None
base_file r (Some n) = file_at (base_end r.base n)

abbrev pub own_or : Option Path → Option Path → Option Path
own_or (Some path) other = Some path
own_or None other = other

-- the file that a descriptor leads to, as far as that is known
abbrev pub file_over : ℕ → RoutingData → Option Path
file_over n r = own_or (file_in (end_in n r.pushed)) (base_file r (lead n r.pushed))

-- ---- tables come and go

abbrev pub new_table : List Route → RouteTable
new_table routes = record { routes = routes; capture = opened (has_capture routes) }

-- the innermost table with other routes
abbrev pub top_with : List Route → List RouteTable → List RouteTable
top_with routes [] = []
top_with routes (t ∷ ts) = record t { routes = routes } ∷ ts

abbrev pub replaced_by : Option (List Route) → List RouteTable → BaseRoutes → BaseRoutes
replaced_by routes [] b = record b { replaced = routes }
replaced_by routes (t ∷ ts) b = b

abbrev pub with_routes : List Route → RoutingData → RoutingData
with_routes routes r = record r { pushed = top_with routes r.pushed; base = replaced_by (Some routes) r.pushed r.base }

-- the innermost table gets back what it had: the base's own where none was pushed
abbrev pub with_saved : Option (List Route) → RoutingData → RoutingData
with_saved (Some routes) r = with_routes routes r
with_saved None r = record r { base = replaced_by None r.pushed r.base }

abbrev pub routes_returned : Bool → Option (List Route) → RoutingData → RoutingData
routes_returned true routes r = with_saved routes r
routes_returned false routes r = r

-- ---- over a base's tables

abbrev pub routes_of : List RouteTable → List (List Route)
routes_of = map (λ t. t.routes)

abbrev pub captures_of : List RouteTable → List Bool
captures_of = map (λ t. is_some t.capture)

-- Each table's `Same` names a descriptor from 1 to 9.
abbrev pub are_all_routes : List RouteTable → Bool
are_all_routes [] = true
are_all_routes (t ∷ ts) = are_routes t.routes && are_all_routes ts

-- Routes that may stand in place of a base's innermost ones.
pub record MayStand (b : WorldData) (routes : List Route) : Type 0 where
  pub fit : are_routes routes ≡ true
  pub stand : may_all_stand b.table routes ≡ true

-- What is known of a base is so.
pub record IsKnown (k : BaseRoutes) (b : WorldData) : Type 0 where
  pub ends : (es : List Route) → k.ends ≡ Some es → es ≡ ends_of (all_tables b)
  pub routes : (rs : List Route) → k.routes ≡ Some rs → rs ≡ b.table.routes

-- Tables are so over a base's: those that were pushed stand above the base's.
pub record RoutingOver (r : RoutingData) (b : WorldData) (ts : List RouteTable) : Type 0 where
  pub under : List RouteTable
  pub is : ts ≡ r.pushed ++ under
  pub below : routes_of under ≡ unwrap_or r.base.replaced b.table.routes ∷ routes_of b.tables
  pub open_below : captures_of under ≡ captures_of (all_tables b)
  pub taken : r.loose ≡ false → captured_in under ≡ captured_in (all_tables b) ++ r.given
  pub fit : are_all_routes r.pushed ≡ true
  pub stand : (rs : List Route) → r.base.replaced ≡ Some rs → MayStand b rs
  pub known : IsKnown r.base b
  pub tight : (es rs : List Route) → r.base.ends ≡ Some es → r.base.routes ≡ Some rs → length rs ≤ 9 → r.loose ≡ false
