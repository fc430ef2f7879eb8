use Rattle.std.proofs.Common.{◌≡◌, ◌+◌, ◌-◌, ◌++◌}
use Rattle.std.specs.List.{range_with_len}
use Rattle.util_lines.proofs.byte_set.push_range.Given as goal

abbrev pub invariant-loop-at : goal.invariant-loop-at
invariant-loop-at l = l.out.items ++ range_with_len l.at (l.high + 1 - l.at) ≡ l.fn.out.items ++ range_with_len l.low (l.high + 1 - l.low)
