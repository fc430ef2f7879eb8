use Rattle.std.proofs.Common.{ap, subst, sym, ◌∙◌, ◌≡◌, min}
use Rattle.std.specs.FinMap as map
use Rattle.std.proofs.ResultArms.{subst_both}
use Rattle.hs_world.specs.Folders.{added, taken, dropped, IsIndex}
use Rattle.hs_world.proofs.Indexes.{index-empty, index-added, index-taken, index-dropped, gone_again, keys-kept}
use Rattle.hs_world.specs.Names.{path_cmp}
use Rattle.hs_world.specs.Files.{IsTree, tree_bytes}
use Rattle.hs_world.proofs.InFolders.{tree-empty}
use Rattle.hs_world.proofs.Trees.{bytes-empty}
use Rattle.hs_world.proofs.tree.Tree.new.Goals as goal

pub invariant_of-result : goal.invariant_of-result
invariant_of-result c = (
  sym (ap (λ es. min (tree_bytes (map.from_entries {R = path_cmp} es)) 18446744073709551615) c.new.ensures.empty ∙ ap (λ n. min n 18446744073709551615) bytes-empty),
  subst_both IsIndex (sym c.new-2.ensures) (sym (ap (λ es. map.from_entries {R = path_cmp} es) c.new.ensures.empty)) index-empty,
  subst IsTree (sym (ap (λ es. map.from_entries {R = path_cmp} es) c.new.ensures.empty)) tree-empty,
)
