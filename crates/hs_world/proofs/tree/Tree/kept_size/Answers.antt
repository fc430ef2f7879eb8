use Rattle.std.proofs.Common.{◌≡◌, ap, sym, ◌∙◌}
use Rattle.std.specs.FinMap as map
use Rattle.hs_world.specs.Names.{path_cmp}
use Rattle.hs_world.specs.Sizes.{capped, entries_size}
use Rattle.hs_world.proofs.Maps.{entries_from, paths_total, paths_same}
use Rattle.hs_world.proofs.tree.Tree.kept_size.Goals as goal

pub returns : goal.returns
returns c = c.kept_total.ensures.size ∙ ap (λ es. capped (entries_size es)) (sym (entries_from path_cmp paths_total paths_same c.self.inside.entries.entries c.kept_total.ensures.ordered) ∙ ap map.entries c.self.view_is)
