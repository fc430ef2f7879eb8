use Rattle.std.proofs.Common.{◌≡◌, ◌≤◌, ◌+◌, length}
use Rattle.util_lines.specs.Runs.{behind, runs}
use Rattle.util_lines.specs.Splitting.{lines}
use Rattle.util_lines.proofs.Counted.{counted}
use Rattle.util_lines.proofs.runs.split_run.Given as goal

abbrev pub invariant-lines : goal.invariant-lines
invariant-lines l = record {
  few : l.count + length l.rest ≤ length l.text + 1;
  within : length l.rest ≤ length l.text;
  run : behind l.line (runs (lines l.text)) ≡ counted l.count l.line (runs (lines l.rest));
}

abbrev pub decreases-lines : goal.decreases-lines
decreases-lines l = length l.rest
