use Rattle.std.proofs.Common.{◌≡◌, ◌-◌, ◌≤◌, ◌++◌, length, take, drop}
use Rattle.util_lines.specs.Decimals.{behind_digits, digits}
use Rattle.util_lines.proofs.decimal.split_digits.Given as goal

abbrev pub invariant-digits : goal.invariant-digits
invariant-digits l = record {
  within : l.len ≤ length l.text;
  front : digits l.text ≡ take l.len l.text ++ digits (drop l.len l.text);
  back : behind_digits l.text ≡ behind_digits (drop l.len l.text);
}

abbrev pub decreases-digits : goal.decreases-digits
decreases-digits l = length l.initial.text - l.len
