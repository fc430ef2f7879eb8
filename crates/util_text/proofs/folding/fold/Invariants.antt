use Rattle.std.proofs.Common.{◌≡◌, ℕ, ◌++◌, length}
use Rattle.std.specs.List.{flat_map}
use Rattle.util_text.specs.Buffer.{Keeps}
use Rattle.util_text.specs.Count.{StandsFor}
use Rattle.util_text.specs.Fold.{fold_line, fold}
use Rattle.util_text.specs.Lines.{lines}
use Rattle.util_text.proofs.folding.fold.Given as goal

abbrev pub invariant-lines : goal.invariant-lines
invariant-lines l = record {
  kept : Keeps l.fn.out.items l.out.items;
  written : (n : ℕ) → StandsFor l.width n → l.out.items ++ flat_map (λ line. fold_line n line) (lines l.rest) ≡ l.fn.out.items ++ fold n l.fn.text;
}

abbrev pub decreases-lines : goal.decreases-lines
decreases-lines l = length l.rest
