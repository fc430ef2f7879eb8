use Rattle.std.proofs.Common.{◌≡◌, ◌-◌, ◌++◌}
use Rattle.util_lines.specs.ByteClass.{has_byte}
use Rattle.util_lines.specs.ByteSet.{bytes_from, bytes_where}
use Rattle.util_lines.proofs.byte_set.push_class.Given as goal

abbrev pub invariant-loop-at : goal.invariant-loop-at
invariant-loop-at l = l.out.items ++ bytes_from (has_byte l.class) l.at (256 - l.at) ≡ l.fn.out.items ++ bytes_where (has_byte l.class)
