use Rattle.std.proofs.Common.{◌≡◌, ◌≤◌, drop}
use Rattle.sh_arith.specs.Number as spec
use Rattle.sh_arith.proofs.number.digits.Given as goal

abbrev pub invariant-loop-b : goal.invariant-loop-b
invariant-loop-b l = record {
  small : l.number ≤ l.fn.limit;
  same : spec.within l.fn.limit (spec.digits l.fn.base l.number (drop l.b-index l.bytes)) ≡ spec.within l.fn.limit (spec.digits l.fn.base 0 l.bytes);
}
