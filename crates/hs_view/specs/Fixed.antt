-- What contracts see of a base over one state.
use Rattle.std.specs.Prelude.{Some, [], false}
use Rattle.hs_world.specs.World.{WorldData}
use Rattle.hs_view.specs.Seen.{Shows, alone}
use Rattle.hs_view.specs.declared.fixed.Fixed.{Fixed}

abbrev pub world_of : Fixed → WorldData
world_of f = f.world

abbrev pub seen_fixed : Shows Fixed
seen_fixed = alone (λ f. record { world = Some f.world; asked = []; writes = false; runs = false; faults = 0 })
