use Rattle.std.proofs.Common.{◌≡◌, None, drop}
use Rattle.sh_arith.specs.Told.{newest}
use Rattle.sh_arith.proofs.tests.newest.Given as goal

abbrev pub invariant-loop-assignment : goal.invariant-loop-assignment
invariant-loop-assignment l = newest None l.made l.name ≡ newest l.found (drop l.assignment-index l.made) l.name
