use Rattle.std.proofs.Common.{◌≡◌, ℕ, ◌<◌, ◌-◌, false, length}
use Rattle.sh_pattern.specs.Match.{matches_suffix}
use Rattle.sh_pattern.proofs.parts.largest_suffix.Given as goal

abbrev pub invariant-loop-before : goal.invariant-loop-before
invariant-loop-before l = (k : ℕ) → k < l.before → matches_suffix l.pattern l.bytes (length l.bytes - k) ≡ false
