use Rattle.std.proofs.Common.{◌≡◌, ◌++◌, length}
use Rattle.std.specs.List.{flat_map}
use Rattle.util_lines.specs.Runs.{runs, shown, uniq}
use Rattle.util_lines.specs.Splitting.{lines}
use Rattle.util_lines.proofs.runs.write_runs.Given as goal

abbrev pub invariant-runs : goal.invariant-runs
invariant-runs l = l.out.items ++ flat_map (λ run. shown l.mode run) (runs (lines l.rest)) ≡ uniq l.mode l.text

abbrev pub decreases-runs : goal.decreases-runs
decreases-runs l = length l.rest
