use Rattle.std.proofs.Common.{◌≡◌, ◌-◌, ◌++◌, not}
use Rattle.util_lines.specs.ByteSet.{bytes_from, complement, has}
use Rattle.util_lines.proofs.byte_set.complement.Given as goal

abbrev pub invariant-loop-at : goal.invariant-loop-at
invariant-loop-at l = l.others.items ++ bytes_from (λ b. not (has l.set b)) l.at (256 - l.at) ≡ complement l.set
