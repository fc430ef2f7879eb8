use Rattle.std.proofs.Common.{◌∙◌}
use Rattle.hs_world.proofs.Trees.{with_told}
use Rattle.hs_world.proofs.tree.Tree.passes_with.Goals as goal

pub returns : goal.returns
returns c = λ e h. c.is_past.ensures ∙ with_told c.args.self.now c.args.path.now e c.bytes_with.result c.len_with.result c.args.size c.bytes_with.ensures h c.len_with.ensures
