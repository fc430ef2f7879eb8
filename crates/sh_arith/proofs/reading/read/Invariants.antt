use Rattle.std.proofs.Common.{◌≤◌, length}
use Rattle.sh_arith.proofs.Text.{Known}
use Rattle.sh_arith.proofs.reading.read.Given as goal

abbrev pub invariant-tokens : goal.invariant-tokens
invariant-tokens l = record {
  within : length l.left ≤ length l.text;
  known : Known l.text l.left l.now l.rest;
}

abbrev pub decreases-tokens : goal.decreases-tokens
decreases-tokens l = length l.left
