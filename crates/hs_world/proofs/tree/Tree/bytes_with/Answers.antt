use Rattle.std.proofs.Common.{arith}
use Rattle.hs_world.proofs.Trees.{size-at_most, within_bytes}
use Rattle.hs_world.proofs.tree.Tree.bytes_with.Goals as goal

pub overflow_sub-bytes : goal.overflow_sub-bytes
overflow_sub-bytes c =
    let a = size-at_most c.args.self.now c.args.path.now in
    let b = within_bytes c.args.self.now c.requires in
    omega (arith, a, b, c.bytes.ensures, c.size_at-old.ensures)
