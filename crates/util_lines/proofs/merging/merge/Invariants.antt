use Rattle.std.proofs.Common.{◌≡◌, ◌+◌, ◌++◌}
use Rattle.std.specs.List.{flat_map}
use Rattle.util_lines.specs.Fronts.{lines_left, size_left}
use Rattle.util_lines.specs.Merging.{comm, merged, shown}
use Rattle.util_lines.proofs.merging.merge.Given as goal

abbrev pub invariant-lines : goal.invariant-lines
invariant-lines l = l.out.items ++ flat_map (λ e. shown l.columns e.column e.line) (merged (lines_left l.left) (lines_left l.right)) ≡ comm l.columns l.one l.two

abbrev pub decreases-lines : goal.decreases-lines
decreases-lines l = size_left l.left + size_left l.right
