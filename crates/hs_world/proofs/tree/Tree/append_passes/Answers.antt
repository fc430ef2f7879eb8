use Rattle.std.proofs.Common.{ap, sym, ◌∙◌, ◌≡◌, ◌+◌, ◌-◌, min, length}
use Rattle.std.specs.FinMap as map
use Rattle.hs_world.specs.Files.{tree_bytes, size_in}
use Rattle.hs_world.proofs.Trees.{append_told}
use Rattle.hs_world.proofs.tree.Tree.append_passes.Goals as goal

pub returns-in-Some : goal.returns-in-Some
returns-in-Some c = c.is_past.ensures ∙ append_told c.args.self.now c.args.path.now c.in-Some.old.now c.args.more.now c.bytes_with-bytes.result c.saturating_add.result c.len_with.result c.in-Some.ensures (c.bytes_with-bytes.ensures ∙ ap (λ n. min ((tree_bytes c.args.self.now - size_in (map.get c.args.self.now c.args.path.now)) + n) 18446744073709551615) c.len.ensures) (c.saturating_add.ensures ∙ ap (λ n. min (c.bytes_with-bytes.result + n) 18446744073709551615) c.len-in-Some.ensures) c.len_with.ensures
