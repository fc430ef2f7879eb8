use Rattle.std.proofs.Common.{List, ℕ, [], true, subst}
use Rattle.hs_view.specs.Acts.{Acts}
use Rattle.hs_view.proofs.Acting.{acts_memory_on}
use Rattle.sh_leaf.specs.Assigning.{all_assigned}
use Rattle.sh_leaf.specs.Command.{call}
use Rattle.sh_leaf.specs.Expanding.{came_then}
use Rattle.sh_leaf.proofs.command.run_with_args.Goals as goal

pub returns-in_err-args : goal.returns-in_err-args
returns-in_err-args g c =
    acts_memory_on g.B.Base.seen (λ w. came_then (all_assigned true c.args.status c.args.assigns.now [] w) (call c.args.name.now c.args.args.now) w) c.args.view.now _ c.from_residual.ensures.0 c.from_residual.ensures.1

pub returns : goal.returns
returns g c =
    subst (λ (xs : List (List ℕ)). Acts g.B.Base.seen (λ w. came_then (all_assigned true c.args.status c.args.assigns.now [] w) (call c.args.name.now xs) w) c.args.view.now c.run_named.new.view c.run_named.result) c.in_ok-args.ensures c.run_named.ensures
