use Rattle.std.proofs.Common.{ap, sym, ◌∙◌}
use Rattle.std.specs.FinMap as map
use Rattle.hs_world.specs.Names.{path_cmp}
use Rattle.hs_world.proofs.Maps.{get_entry, paths_total}
use Rattle.hs_overlay.proofs.paths.Paths.get.Goals as goal

pub returns : goal.returns
returns c = c.get.ensures.value ∙ sym (get_entry path_cmp paths_total c.self.inside.entries.entries c.args.path.now) ∙ ap (λ m. map.get m c.args.path.now) c.self.view_is
