use Rattle.hs_view.specs.Acts.{Loops}
use Rattle.sh_param.specs.Plans.{first}
use Rattle.sh_expand.specs.Rest.{rest_of}
use Rattle.sh_expand.specs.Weights.{weight}
use Rattle.sh_expand.proofs.machine.Machine.go.Given as goal

-- what is left is what was left before
abbrev pub invariant-steps : goal.invariant-steps
invariant-steps g l = Loops g.B.Base.seen (first (rest_of l.fn.self)) (first (rest_of l.self)) l.fn.view l.view

abbrev pub decreases-steps : goal.decreases-steps
decreases-steps g l = weight l.self
