-- What was read of a state: locations with their values.
use Rattle.std.specs.Prelude.{◌≡◌, ◌≢◌, ℕ, ◌<◌, List, [], ◌∷◌, length, slice_index_or as get_or}
use Rattle.std.specs.List.{AllByRecursion as ByRecursion}
use Rattle.std.specs.Prelude.{Some, None}
use Rattle.std.specs.FinMap.{FinMap, get}
use Rattle.hs_world.specs.Locs.{loc_cmp}
use Rattle.hs_world.specs.declared.loc.Loc.{Loc}
use Rattle.hs_world.specs.declared.loc.Value.{Value}
use Rattle.hs_world.specs.World.{WorldData, At}

abbrev pub ReadList : Type 0
ReadList = List (Loc × Value)

-- Each recorded value is the one at its location.
abbrev pub Passes : ReadList → WorldData → Type 0
Passes [] w = Unit {0}
Passes (r ∷ rs) w = (At w r.0 ≡ r.1) × Passes rs w

-- No recorded pair has this location.
abbrev pub IsNew : Loc → ReadList → Type 0
IsNew loc = ByRecursion (λ r. r.0 ≢ loc)

-- No location stands in two recorded pairs.
abbrev pub Fresh : ReadList → Type 0
Fresh [] = Unit {0}
Fresh (r ∷ rs) = IsNew r.0 rs × Fresh rs

-- The pair stands among the reads.
abbrev pub IsRead : ReadList → Loc → Value → Type 0
IsRead rs loc value = (k : ℕ) × (k < length rs) × (get_or rs k (loc, value) ≡ (loc, value))

-- The pair at a place is of this location.
pub record IsAt (rs : ReadList) (loc : Loc) (k : ℕ) : Type 0 where
  pub within : k < length rs
  pub is : (d : Loc × Value) → (get_or rs k d).0 ≡ loc

-- A table has the place of each recorded location, and of no other, and none stands twice.
pub record ArePlaces (rs : ReadList) (places : FinMap loc_cmp ℕ) : Type 0 where
  pub fresh : Fresh rs
  pub found : (loc : Loc) (k : ℕ) → get places loc ≡ Some k → IsAt rs loc k
  pub missed : (loc : Loc) → get places loc ≡ None → IsNew loc rs

-- The locations whose values differ in two states, each once, with the value in the second.
pub record Changed (w v : WorldData) (locs : ReadList) : Type 0 where
  pub fresh : Fresh locs
  pub differ : ByRecursion (λ r. (At w r.0 ≢ r.1) × (At v r.0 ≡ r.1)) locs
  pub all : (loc : Loc) → At w loc ≢ At v loc → IsRead locs loc (At v loc)
