-- What a view's reads tell of its base's tables of routes, and what its own effects make of the state over that.
use Rattle.std.specs.Prelude.{◌≡◌, Bool, true, false, List, [], ◌∷◌, Option, Some, None, length}
use Rattle.hs_world.specs.Reads.{ReadList}
use Rattle.hs_world.specs.declared.loc.Loc.{Loc}
use Rattle.hs_world.specs.declared.loc.Loc.TheVariants as loc
use Rattle.hs_world.specs.declared.loc.Value.{Value}
use Rattle.hs_world.specs.declared.loc.Value.TheVariants as value
use Rattle.hs_world.specs.declared.route.Route.{Route}
use Rattle.hs_world.specs.World.{WorldData, Applied}
use Rattle.hs_overlay.specs.Over.{Over}
use Rattle.hs_overlay.specs.Overlay.{OverlayData, no_overlay, over_all}
use Rattle.hs_overlay.specs.Shown.{lacks}
use Rattle.hs_view.specs.Seen.{Shows}
use Rattle.hs_view.specs.View.{Viewed, Stands, own_of}

abbrev pub ends_or : Loc → Value → Option (List Route) → Option (List Route)
ends_or loc.Ends (value.Ends routes) rest = Some routes
ends_or _ _ rest = rest

-- the ends of the base, where they were read
abbrev pub ends_in : ReadList → Option (List Route)
ends_in [] = None
ends_in (r ∷ rs) = ends_or r.0 r.1 (ends_in rs)

abbrev pub routes_or : Loc → Value → Option (List Route) → Option (List Route)
routes_or loc.Routes (value.Routes routes) rest = Some routes
routes_or _ _ rest = rest

-- the routes of its innermost table, where they were read
abbrev pub routes_in : ReadList → Option (List Route)
routes_in [] = None
routes_in (r ∷ rs) = routes_or r.0 r.1 (routes_in rs)

-- whether a read tells of them
abbrev pub is_of_tables : Loc → Bool
is_of_tables loc.Ends = true
is_of_tables loc.Routes = true
is_of_tables _ = false

-- what the effects that the base does not have make of its state
abbrev pub tables_of : {B : Type 0} → Shows B → Viewed B → OverlayData
tables_of seen v = over_all (own_of seen v) (no_overlay (ends_in v.reads) (routes_in v.reads))

-- ---- whether a location hangs on more than is known

abbrev pub IsTold : Option (List Route) → Type 0
IsTold o = (routes : List Route) × (o ≡ Some routes)

abbrev pub IsNine : Option (List Route) → Type 0
IsNine o = (routes : List Route) × (o ≡ Some routes) × (length routes ≡ 9)

-- The value at a location is known, or as much was read as it can hang on.
pub data IsSettled (l : Loc) (o : OverlayData) (reads : ReadList) : Type 0 where
  Sure : lacks o l ≡ false → IsSettled l o reads
  Told : IsTold (ends_in reads) → IsNine (routes_in reads) → IsSettled l o reads

-- A read of a location tells nothing new of the tables, unless it is one of them.
pub record Untold (l : Loc) (old new : ReadList) : Type 0 where
  pub ends : (l ≡ loc.Ends → ⊥) → ends_in new ≡ ends_in old
  pub routes : (l ≡ loc.Routes → ⊥) → routes_in new ≡ routes_in old

-- These are the tables of a view's effects, and the states that it shows are so over its base's.
pub record Tabled {B : Type 0} (seen : Shows B) (v : Viewed B) (o : OverlayData) : Type 0 where
  pub is : o ≡ tables_of seen v
  pub over : (b : WorldData) → Stands (seen.tells v.base) v.reads b → Over o b (Applied (own_of seen v) b)
