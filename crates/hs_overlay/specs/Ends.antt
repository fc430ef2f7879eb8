-- Where a descriptor leads, as the code tells it.
use Rattle.std.specs.Prelude.{Option, Some, None}
use Rattle.hs_world.specs.declared.route.Route.{Route}
use Rattle.hs_world.specs.declared.route.Route.TheVariants.{Null, Closed}
use Rattle.hs_overlay.specs.declared.routing.End.{End}
use Rattle.hs_overlay.specs.declared.routing.End.TheVariants as end

-- None is what is not known
abbrev pub end_as : End → Option Route
end_as (end.At route) = Some route.now
end_as end.Nowhere = Some Null
end_as end.Closed = Some Closed
end_as end.Unknown = None
