use Rattle.std.proofs.Common.{◌≡◌, length, None}
use Rattle.sh_script.specs.Openings.{latest}
use Rattle.sh_script.proofs.openings.latest.Given as goal

abbrev pub invariant-numbers : goal.invariant-numbers
invariant-numbers l = latest l.found l.left ≡ latest None l.fn.numbers

abbrev pub decreases-numbers : goal.decreases-numbers
decreases-numbers l = length l.left
