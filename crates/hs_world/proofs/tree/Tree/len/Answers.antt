use Rattle.std.proofs.Common.{ap, sym, ◌∙◌, length, ◌≡◌}
use Rattle.std.specs.FinMap as map
use Rattle.hs_world.specs.Names.{path_cmp}
use Rattle.hs_world.proofs.Maps.{entries_from, paths_total, paths_same}
use Rattle.hs_world.proofs.tree.Tree.len.Goals as goal

pub returns-clause-len : goal.returns-clause-len
returns-clause-len c = c.len.ensures.len ∙ sym (ap length (entries_from path_cmp paths_total paths_same c.self.inside.entries.entries c.len.ensures.ordered)) ∙ sym (map.len-entries _) ∙ ap map.len c.self.view_is
