use Rattle.std.proofs.Common.{◌≡◌, length}
use Rattle.sh_arith.specs.Machine.{settled}
use Rattle.sh_arith.proofs.step.settle.Given as goal

abbrev pub invariant-frames : goal.invariant-frames
invariant-frames l = settled l.power l.rest ≡ settled l.fn.power l.fn.rest

abbrev pub decreases-frames : goal.decreases-frames
decreases-frames l = length l.rest.stack
