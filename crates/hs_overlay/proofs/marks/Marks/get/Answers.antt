use Rattle.std.proofs.Common.{ap, sym, ◌∙◌}
use Rattle.std.specs.FinMap as map
use Rattle.hs_world.specs.Names.{name_cmp}
use Rattle.hs_world.proofs.Maps.{get_entry, names_total}
use Rattle.hs_overlay.proofs.marks.Marks.get.Goals as goal

pub returns : goal.returns
returns g c = c.get.ensures.value ∙ sym (get_entry name_cmp names_total c.self.inside.entries.entries c.args.name.now) ∙ ap (λ m. map.get m c.args.name.now) c.self.view_is
