use Rattle.std.proofs.Common.{◌≡◌, ◌+◌, ◌≤◌, ◌++◌, length}
use Rattle.std.specs.Prelude.{◌||◌}
use Rattle.std.specs.List.{list_any}
use Rattle.util_lines.specs.FixedLines.{has_selected, lines_from, selects}
use Rattle.util_lines.specs.Splitting.{lines}
use Rattle.util_lines.proofs.fixed_lines.write_lines.Given as goal

abbrev pub invariant-lines : goal.invariant-lines
invariant-lines l = record {
  written : l.out.items ++ lines_from l.search.flags l.search.patterns l.prefix (l.number + 1) (lines l.rest)
      ≡ l.fn.out.items ++ lines_from l.search.flags l.search.patterns l.prefix 1 (lines l.fn.content);
  found : has_selected l.search.flags l.search.patterns l.fn.content ≡ (l.any || list_any (λ line. selects l.search.flags l.search.patterns line) (lines l.rest));
  within : l.number + length l.rest ≤ length l.fn.content;
}

abbrev pub decreases-lines : goal.decreases-lines
decreases-lines l = length l.rest
