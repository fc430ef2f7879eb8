use Rattle.std.proofs.Common.{◌≡◌, ◌≤◌, length, take}
use Rattle.util_lines.specs.Decimals.{without_zeros}
use Rattle.util_lines.proofs.decimal.trim_zeros.Given as goal

abbrev pub invariant-zeros : goal.invariant-zeros
invariant-zeros l = record {
  within : l.len ≤ length l.digits;
  same : without_zeros (take l.len l.digits) ≡ without_zeros l.digits;
}

abbrev pub decreases-zeros : goal.decreases-zeros
decreases-zeros l = l.len
