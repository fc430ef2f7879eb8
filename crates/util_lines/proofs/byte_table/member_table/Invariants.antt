use Rattle.std.proofs.Common.{◌≡◌, ℕ, ◌<◌, false, take, get_or}
use Rattle.util_lines.specs.ByteSet.{has}
use Rattle.util_lines.proofs.byte_table.member_table.Given as goal

abbrev pub invariant-bytes : goal.invariant-bytes
invariant-bytes l = (b : ℕ) → b < 256 → get_or l.table b false ≡ has (take l.byte-index l.set) b
