use Rattle.std.proofs.Common.{◌≡◌, ℕ, ◌+◌, ◌<◌, ◌≤◌, Bool, true, false, List, [], ◌∷◌, ◌++◌, map, refl, sym, ap, ◌∙◌, subst, arith}
use Rattle.std.specs.Prelude.{Option, Some, None, Result, Ok, Err}
use Rattle.sh_expand.specs.Rest.{after_word, behind_parts, means, next_of, opens_mean, part_plan, rest_of, waiting_of}
use Rattle.sh_expand.proofs.Steps.{arrives_reaches, begins_on}
use Rattle.sh_expand.proofs.expansion.go_on.Goals as goal

pub returns-in_err-expanded : goal.returns-in_err-expanded
returns-in_err-expanded g c =
    begins_on g.B.Base.seen (rest_of c.args.machine) c.args.view.now c.go.new.view c.in_err-expanded.field-0.0 c.from_residual.result c.from_residual.ensures.0 c.from_residual.ensures.1 c.in_err-expanded.ensures

pub returns : goal.returns
returns g c = arrives_reaches g.B.Base.seen (rest_of c.args.machine) (waiting_of c.go.new.self) _ c.args.view.now c.go.new.view c.in_ok-expanded.expanded c.in_ok-expanded.ensures c.left-state.ensures
