use Rattle.std.proofs.Common.{ap, ◌∙◌, min}
use Rattle.hs_world.specs.Files.{tree_bytes}
use Rattle.hs_world.proofs.Trees.{over_told}
use Rattle.hs_world.proofs.tree.Tree.is_over.Goals as goal

pub returns : goal.returns
returns c = c.is_past.ensures ∙ over_told c.args.self.now c.self.inside.bytes c.len.result (c.self.invariant.0 ∙ ap (λ t. min (tree_bytes t) 18446744073709551615) c.self.view_is) c.len.ensures.len
