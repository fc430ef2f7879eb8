use Rattle.std.proofs.Common.{ap, ◌∙◌}
use Rattle.std.specs.FinMap as map
use Rattle.hs_world.specs.Locs.{loc_cmp, locs_total}
use Rattle.hs_world.proofs.LocOrder.{locs_same}
use Rattle.hs_world.proofs.Maps.{one_set}
use Rattle.hs_world.proofs.record.Places.insert.Goals as goal

pub returns-clause-ok : goal.returns-clause-ok
returns-clause-ok c = one_set loc_cmp locs_total locs_same c.self.inside.entries.entries c.insert.new.self.entries c.args.loc c.args.place c.in_ok-insert.ensures.updates.0 ∙ ap (λ m. map.insert m c.args.loc c.args.place) c.self.view_is
