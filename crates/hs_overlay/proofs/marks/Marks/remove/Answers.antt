use Rattle.std.proofs.Common.{ap, ◌∙◌}
use Rattle.std.specs.FinMap as map
use Rattle.hs_world.specs.Names.{name_cmp}
use Rattle.hs_world.proofs.Maps.{one_removed, names_total, names_same}
use Rattle.hs_overlay.proofs.marks.Marks.remove.Goals as goal

pub returns : goal.returns
returns g c = one_removed name_cmp names_total names_same c.self.inside.entries.entries c.remove.new.self.entries c.args.name.now c.remove.ensures.updates.0 ∙ ap (λ m. map.remove m c.args.name.now) c.self.view_is
