use Rattle.std.proofs.Common.{◌≡◌, ℕ, ◌<◌, false, take, get_or}
use Rattle.sh_split.specs.Fields.{delimits}
use Rattle.sh_split.proofs.separators.table_of.Given as goal

abbrev pub invariant-bytes : goal.invariant-bytes
invariant-bytes l = (b : ℕ) → b < 256 → get_or l.table b false ≡ delimits (take l.byte-index l.bytes) b
