use Rattle.std.proofs.Common.{◌≡◌, ◌-◌, ◌^◌, min, true, ap, subst, sym, ◌∙◌}
use Rattle.std.specs.FinMap as map
use Rattle.std.proofs.ResultArms.{subst_both}
use Rattle.hs_world.specs.Folders.{added, taken, dropped, IsIndex}
use Rattle.hs_world.proofs.Indexes.{index-empty, index-added, index-taken, index-dropped, gone_again, keys-kept}
use Rattle.hs_world.specs.Files.{Files, IsTree, entry_at, is_removable, tree_bytes, size_in}
use Rattle.hs_world.specs.Names.{path_cmp}
use Rattle.hs_world.proofs.InFolders.{tree-removed}
use Rattle.hs_world.proofs.Maps.{one_removed, paths_total, paths_same}
use Rattle.hs_world.proofs.Trees.{removed_sum, old_at_most, bytes-from}
use Rattle.hs_world.proofs.tree.Tree.remove.Goals as goal

pub invariant_of-self : goal.invariant_of-self
invariant_of-self c =
    let t : Files = map.from_entries c.self.inside.entries.entries in
    let gone = one_removed path_cmp paths_total paths_same c.self.inside.entries.entries c.remove.new.self.entries c.args.path.now c.remove.ensures.updates.0 in
    let old : c.size_at-old.result ≡ size_in (map.get t c.args.path.now) = c.size_at-old.ensures ∙ ap (λ m. size_in (map.get m c.names.result.now)) (sym c.self.view_is) ∙ ap (λ p. size_in (map.get t p)) c.names.ensures.names in
    let sum = removed_sum t c.remove.new.self.entries c.args.path.now c.size_at-old.result gone c.settled-self-inside.ensures.ordered old in
    let kept = index-dropped (taken c.self.inside.folders c.args.path.now) (map.remove t c.args.path.now) c.args.path.now (index-taken c.self.inside.folders t c.args.path.now c.self.invariant.1) in
    let held : c.drop_empty.new.self ≡ dropped (taken c.self.inside.folders c.args.path.now) c.args.path.now = c.drop_empty.ensures ∙ ap (λ f. dropped f c.args.path.now) c.take.ensures in
    let free : is_removable (entry_at t c.args.path.now) t c.args.path.now ≡ true = ap (λ (m : Files). is_removable (entry_at m c.args.path.now) m c.args.path.now) c.self.view_is ∙ c.requires in (
      c.settled-self-inside.ensures.sum (tree_bytes t) c.self.invariant.0 sum (old_at_most t c.args.path.now c.size_at-old.result old)
          ∙ ap (λ n. min n 18446744073709551615) (sym (bytes-from c.remove.new.self.entries c.settled-self-inside.ensures.ordered)),
      subst_both IsIndex (sym held) (sym gone) kept,
      subst IsTree (sym gone) (tree-removed t c.args.path.now c.self.invariant.2 free),
    )

pub returns : goal.returns
returns c = one_removed path_cmp paths_total paths_same c.self.inside.entries.entries c.remove.new.self.entries c.args.path.now c.remove.ensures.updates.0 ∙ ap (λ m. map.remove m c.args.path.now) c.self.view_is
