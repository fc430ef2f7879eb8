use Rattle.std.proofs.Common.{◌≡◌, length}
use Rattle.sh_param.specs.Outputs.{without_newlines}
use Rattle.sh_param.proofs.output.without_newlines.Given as goal

abbrev pub invariant-newlines : goal.invariant-newlines
invariant-newlines l = without_newlines l.rest ≡ without_newlines l.bytes

abbrev pub decreases-newlines : goal.decreases-newlines
decreases-newlines l = length l.rest
