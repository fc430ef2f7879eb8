use Rattle.std.proofs.Common.{◌≡◌, ◌++◌, drop}
use Rattle.util_lines.specs.Fronts.{shown_lines}
use Rattle.util_lines.specs.Orders.{all_lines}
use Rattle.util_lines.proofs.arranging.lines_of.Given as goal

abbrev pub invariant-loop-text : goal.invariant-loop-text
invariant-loop-text l = shown_lines l.lines.items ++ all_lines (drop l.text-index l.texts) ≡ all_lines l.texts
