use Rattle.std.proofs.Common.{◌≡◌, ℕ, ◌<◌, false}
use Rattle.sh_pattern.specs.Match.{matches_suffix}
use Rattle.sh_pattern.proofs.parts.smallest_suffix.Given as goal

abbrev pub invariant-loop-len : goal.invariant-loop-len
invariant-loop-len l = (k : ℕ) → k < l.len → matches_suffix l.pattern l.bytes k ≡ false
