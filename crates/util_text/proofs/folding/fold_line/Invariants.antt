use Rattle.std.proofs.Common.{◌≡◌, ◌++◌, length}
use Rattle.util_text.specs.Buffer.{Keeps}
use Rattle.util_text.specs.Fold.{fold_line}
use Rattle.util_text.proofs.folding.fold_line.Given as goal

abbrev pub invariant-cuts : goal.invariant-cuts
invariant-cuts l = record {
  kept : Keeps l.fn.out.items l.out.items;
  written : l.out.items ++ fold_line l.width l.rest ≡ l.fn.out.items ++ fold_line l.width l.fn.line;
}

abbrev pub decreases-cuts : goal.decreases-cuts
decreases-cuts l = length l.rest
