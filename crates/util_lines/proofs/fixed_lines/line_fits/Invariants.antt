use Rattle.std.proofs.Common.{◌≡◌, length}
use Rattle.std.specs.List.{list_any}
use Rattle.util_lines.specs.FixedLines.{fits}
use Rattle.util_lines.specs.Splitting.{lines}
use Rattle.util_lines.proofs.fixed_lines.line_fits.Given as goal

abbrev pub invariant-patterns : goal.invariant-patterns
invariant-patterns l = list_any (λ pattern. fits l.whole l.line pattern) (lines l.fn.patterns) ≡ list_any (λ pattern. fits l.whole l.line pattern) (lines l.rest)

abbrev pub decreases-patterns : goal.decreases-patterns
decreases-patterns l = length l.rest
