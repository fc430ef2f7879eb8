use Rattle.std.proofs.Common.{◌≡◌, drop}
use Rattle.sh_arith.specs.Told.{listed}
use Rattle.sh_arith.proofs.tests.listed.Given as goal

abbrev pub invariant-loop-entry : goal.invariant-loop-entry
invariant-loop-entry l = listed l.names l.name ≡ listed (drop l.entry-index l.names) l.name
