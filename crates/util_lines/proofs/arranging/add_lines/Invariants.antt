use Rattle.std.proofs.Common.{◌≡◌, ◌++◌, length}
use Rattle.util_lines.specs.Fronts.{shown_lines}
use Rattle.util_lines.specs.Splitting.{lines}
use Rattle.util_lines.proofs.arranging.add_lines.Given as goal

abbrev pub invariant-lines : goal.invariant-lines
invariant-lines l = shown_lines l.lines.items ++ lines l.rest ≡ shown_lines l.fn.lines.items ++ lines l.fn.text

abbrev pub decreases-lines : goal.decreases-lines
decreases-lines l = length l.rest
