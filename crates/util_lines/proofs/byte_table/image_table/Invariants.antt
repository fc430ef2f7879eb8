use Rattle.std.proofs.Common.{◌≡◌, ℕ, ◌<◌, drop, get_or}
use Rattle.std.specs.Prelude.{None, unwrap_or}
use Rattle.util_lines.specs.Transliterate.{image}
use Rattle.util_lines.proofs.byte_table.image_table.Given as goal

abbrev pub invariant-bytes : goal.invariant-bytes
invariant-bytes l = (b : ℕ) → b < 256 → image l.fn.from l.fn.to b ≡ unwrap_or (get_or l.table b None) (image (drop l.byte-index l.from) l.left b)
