use Rattle.std.proofs.Common.{◌≡◌, ◌++◌, drop}
use Rattle.util_lines.specs.Fronts.{shown_lines}
use Rattle.util_lines.specs.Splitting.{joined}
use Rattle.util_lines.proofs.arranging.join_lines.Given as goal

abbrev pub invariant-loop-line : goal.invariant-loop-line
invariant-loop-line l = l.out.items ++ joined (shown_lines (drop l.line-index l.lines)) ≡ joined (shown_lines l.lines)
