use Rattle.std.proofs.Common.{rules, ◌≡◌, ◌^◌, ◌-◌, ◌≤◌, ◌+◌, arith, min, ap, sym, ◌∙◌, ◌++◌, length, subst}
use Rattle.std.specs.Prelude.{Some, None}
use Rattle.std.specs.FinMap as map
use Rattle.std.proofs.ResultArms.{subst_both}
use Rattle.hs_world.specs.Folders.{added, taken, dropped, IsIndex}
use Rattle.hs_world.proofs.Indexes.{index-empty, index-added, index-taken, index-dropped, gone_again, keys-kept}
use Rattle.hs_world.specs.Files.{Files, IsTree, tree_bytes, bytes_of, entry_at, extended_at, names_in}
use Rattle.hs_world.specs.Names.{path_cmp}
use Rattle.hs_world.proofs.InFolders.{tree-rewritten}
use Rattle.hs_world.proofs.Trees.{append_sum, append_law, bytes-from, file_found}
use Rattle.hs_world.specs.declared.entry.Entry.TheVariants.{File}
use Rattle.hs_world.proofs.tree.Tree.append.Goals as goal

pub invariant_of-self-2 : goal.invariant_of-self-2
invariant_of-self-2 c =
    let t : Files = map.from_entries c.self.inside.entries.entries in
    let found : Some c.in-Some.field-0.now ≡ bytes_of (entry_at t c.args.path.now) = c.in-Some.ensures ∙ ap (λ m. bytes_of (entry_at m c.names.result.now)) (sym c.self.view_is) ∙ ap (λ p. bytes_of (entry_at t p)) c.names.ensures.names in
    let sum = append_sum t c.extend_at.new.entries.entries c.args.path.now c.in-Some.field-0.now c.args.more.now c.in_ok-extend_at.ensures.ok c.settled-self-inside.ensures.ordered found in
    let old = file_found t c.args.path.now c.in-Some.field-0.now found in
    let came : map.from_entries {R = path_cmp} c.extend_at.new.entries.entries ≡ map.insert t c.args.path.now (File (c.in-Some.field-0.now ++ c.args.more.now)) =
    c.in_ok-extend_at.ensures.ok ∙ ap (λ o. extended_at o t c.args.path.now c.args.more.now) old in (
      c.settled-self-inside.ensures.sum (tree_bytes t) c.self.invariant.0 (sum ∙ ap (λ n. tree_bytes t + n) (sym c.len.ensures)) (omega arith)
          ∙ ap (λ n. min n 18446744073709551615) (sym (bytes-from c.extend_at.new.entries.entries c.settled-self-inside.ensures.ordered)),
      λ p. c.self.invariant.1 p ∙ sym (ap (λ m. names_in p (map.keys m)) came ∙ ap (names_in p) (keys-kept t c.args.path.now _ (File c.in-Some.field-0.now) old)),
      subst IsTree (sym came) (tree-rewritten t c.args.path.now c.in-Some.field-0.now (c.in-Some.field-0.now ++ c.args.more.now) old c.self.invariant.2),
    )
