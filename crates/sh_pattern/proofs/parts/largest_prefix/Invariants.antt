use Rattle.std.proofs.Common.{◌≡◌, ℕ, ◌<◌, ◌-◌, false, length}
use Rattle.sh_pattern.specs.Match.{matches_prefix}
use Rattle.sh_pattern.proofs.parts.largest_prefix.Given as goal

abbrev pub invariant-loop-after : goal.invariant-loop-after
invariant-loop-after l = (k : ℕ) → k < l.after → matches_prefix l.pattern l.bytes (length l.bytes - k) ≡ false
