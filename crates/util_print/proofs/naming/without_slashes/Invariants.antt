use Rattle.std.proofs.Common.{◌≡◌, length}
use Rattle.util_print.specs.Naming.{without_slashes}
use Rattle.util_print.proofs.naming.without_slashes.Given as goal

abbrev pub invariant-slashes : goal.invariant-slashes
invariant-slashes l = without_slashes l.rest ≡ without_slashes l.text

abbrev pub decreases-slashes : goal.decreases-slashes
decreases-slashes l = length l.rest
