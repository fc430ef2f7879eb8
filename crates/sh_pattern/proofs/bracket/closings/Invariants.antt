use Rattle.std.proofs.Common.{◌≡◌, ℕ, ◌+◌, ◌≤◌, false, length, drop, get_or}
use Rattle.sh_pattern.specs.Items.{closes}
use Rattle.sh_pattern.proofs.bracket.closings.Given as goal

abbrev pub invariant-places : goal.invariant-places
invariant-places l = record {
  within : l.at ≤ length l.fn.text;
  len : length l.closed.items ≡ length l.fn.text + 1;
  each : (k : ℕ) → l.at ≤ k → k ≤ length l.fn.text → get_or l.closed.items k false ≡ closes (drop k l.fn.text);
}

abbrev pub decreases-places : goal.decreases-places
decreases-places l = l.at
