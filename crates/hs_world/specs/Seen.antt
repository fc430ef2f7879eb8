-- The end of a descriptor, as it is seen.
use Rattle.std.specs.Prelude.{ℕ}
use Rattle.hs_world.specs.declared.route.Route.{Route}
use Rattle.hs_world.specs.declared.route.Route.TheVariants.{Null, Closed}
use Rattle.hs_world.specs.declared.tables.Seen.{Seen}
use Rattle.hs_world.specs.declared.tables.Seen.TheVariants as seen

abbrev pub seen_as : Seen → Route
seen_as (seen.At route) = route.now
seen_as seen.Nowhere = Null
seen_as seen.Closed = Closed
