use Rattle.std.proofs.Common.{◌≡◌, drop}
use Rattle.sh_arith.specs.Told.{value_in}
use Rattle.sh_arith.proofs.tests.value_in.Given as goal

abbrev pub invariant-loop-entry : goal.invariant-loop-entry
invariant-loop-entry l = value_in l.values l.name ≡ value_in (drop l.entry-index l.values) l.name
