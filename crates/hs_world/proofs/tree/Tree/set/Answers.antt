use Rattle.std.proofs.Common.{◌≡◌, ◌-◌, ◌^◌, false, min, true, ap, subst, sym, ◌∙◌}
use Rattle.std.specs.FinMap as map
use Rattle.std.proofs.ResultArms.{subst_both}
use Rattle.hs_world.specs.Folders.{added, taken, dropped, IsIndex}
use Rattle.hs_world.proofs.Indexes.{index-empty, index-added, index-taken, index-dropped, gone_again, keys-kept}
use Rattle.hs_world.specs.Files.{Files, IsTree, entry_at, is_dir, tree_bytes, size_in}
use Rattle.hs_world.specs.Names.{path_cmp}
use Rattle.std.specs.Prelude.{None}
use Rattle.hs_world.specs.Paths.{parent}
use Rattle.hs_world.proofs.InFolders.{tree-set}
use Rattle.hs_world.proofs.Maps.{one_set, get_entry, paths_total, paths_same}
use Rattle.hs_world.proofs.Trees.{set_sum, old_at_most, bytes-from}
use Rattle.hs_world.proofs.tree.Tree.set.Goals as goal

pub invariant_of-self-in-Err : goal.invariant_of-self-in-Err
invariant_of-self-in-Err c =
    let t : Files = map.from_entries c.self.inside.entries.entries in
    let same : map.from_entries {R = path_cmp} c.insert.new.self.entries ≡ t = ap (λ es. map.from_entries {R = path_cmp} es) c.in-Err.ensures.err in
    let none : map.get t c.args.path ≡ None = get_entry path_cmp paths_total c.self.inside.entries.entries c.args.path ∙ c.in-Err.ensures.absent in
    let kept = index-taken (added c.self.inside.folders c.args.path) (map.insert t c.args.path c.args.entry) c.args.path (index-added c.self.inside.folders t c.args.path c.args.entry c.self.invariant.1) in
    let held : c.take.new.self ≡ taken (added c.self.inside.folders c.args.path) c.args.path = c.take.ensures ∙ (λ i. taken (c.in_ok-add.ensures.ok i) ((ap (λ p. p.0) c.in-Err.ensures.value_returned) i)) in (
      c.self.invariant.0 ∙ ap (λ m. min (tree_bytes m) 18446744073709551615) (sym same),
      subst_both IsIndex (sym held) (gone_again t c.args.path c.args.entry none ∙ sym same) kept,
      subst IsTree (sym same) c.self.invariant.2,
    )

pub invariant_of-self-2 : goal.invariant_of-self-2
invariant_of-self-2 c =
    let t : Files = map.from_entries c.self.inside.entries.entries in
    let came = one_set path_cmp paths_total paths_same c.self.inside.entries.entries c.insert.new.self.entries c.args.path c.args.entry c.in-Ok.ensures.updates.0 in
    let old : c.size_at-old.result ≡ size_in (map.get t c.args.path) = c.size_at-old.ensures ∙ ap (λ m. size_in (map.get m c.names.result.now)) (sym c.self.view_is) ∙ ap (λ p. size_in (map.get t p)) c.names.ensures.names in
    let sum = set_sum t c.insert.new.self.entries c.args.path c.args.entry c.size_at-old.result c.size_of-new.result came c.settled-self-inside.ensures.ordered old c.size_of-new.ensures in
    let kept = index-added c.self.inside.folders t c.args.path c.args.entry c.self.invariant.1 in
    let folder : is_dir (entry_at t (parent c.args.path)) ≡ true = ap (λ (m : Files). is_dir (entry_at m (parent c.args.path))) c.self.view_is ∙ c.requires.parent in
    let place : is_dir (entry_at t c.args.path) ≡ false = ap (λ (m : Files). is_dir (entry_at m c.args.path)) c.self.view_is ∙ c.requires.place in (
      c.settled-self-inside.ensures.sum (tree_bytes t) c.self.invariant.0 sum (old_at_most t c.args.path c.size_at-old.result old)
          ∙ ap (λ n. min n 18446744073709551615) (sym (bytes-from c.insert.new.self.entries c.settled-self-inside.ensures.ordered)),
      subst_both IsIndex (sym c.in_ok-add.ensures.ok) (sym came) kept,
      subst IsTree (sym came) (tree-set t c.args.path c.args.entry c.self.invariant.2 folder place),
    )

pub returns-clause-ok : goal.returns-clause-ok
returns-clause-ok c = one_set path_cmp paths_total paths_same c.self.inside.entries.entries c.insert.new.self.entries c.args.path c.args.entry c.in-Ok.ensures.updates.0 ∙ ap (λ m. map.insert m c.args.path c.args.entry) c.self.view_is
