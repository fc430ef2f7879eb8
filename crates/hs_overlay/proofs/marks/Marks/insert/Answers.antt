use Rattle.std.proofs.Common.{ap, ◌∙◌}
use Rattle.std.specs.FinMap as map
use Rattle.hs_world.specs.Names.{name_cmp}
use Rattle.hs_world.proofs.Maps.{one_set, names_total, names_same}
use Rattle.hs_overlay.proofs.marks.Marks.insert.Goals as goal

pub returns-clause-ok : goal.returns-clause-ok
returns-clause-ok g c = one_set name_cmp names_total names_same c.self.inside.entries.entries c.insert.new.self.entries c.args.name c.args.value c.in_ok-insert.ensures.updates.0 ∙ ap (λ m. map.insert m c.args.name c.args.value) c.self.view_is
