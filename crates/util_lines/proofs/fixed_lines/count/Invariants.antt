use Rattle.std.proofs.Common.{◌≡◌, ◌+◌, ◌≤◌, length}
use Rattle.std.specs.List.{filter}
use Rattle.util_lines.specs.FixedLines.{count_of, selects}
use Rattle.util_lines.specs.Splitting.{lines}
use Rattle.util_lines.proofs.fixed_lines.count.Given as goal

abbrev pub invariant-lines : goal.invariant-lines
invariant-lines l = record {
  counted : count_of l.search.flags l.search.patterns l.fn.content ≡ l.count + length (filter (λ line. selects l.search.flags l.search.patterns line) (lines l.rest));
  within : l.count + length l.rest ≤ length l.fn.content;
}

abbrev pub decreases-lines : goal.decreases-lines
decreases-lines l = length l.rest
