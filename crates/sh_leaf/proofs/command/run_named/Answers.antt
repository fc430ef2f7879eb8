use Rattle.std.proofs.Common.{[], true}
use Rattle.sh_leaf.proofs.Coming.{came_failed, came_halt, came_on}
use Rattle.sh_leaf.specs.Assigning.{all_assigned}
use Rattle.sh_leaf.specs.Command.{call}
use Rattle.sh_leaf.proofs.command.run_named.Goals as goal

pub returns-in_err-came : goal.returns-in_err-came
returns-in_err-came g c =
    came_halt g.B.Base.seen (all_assigned true c.args.status c.args.assigns.now []) (call c.args.name.now c.args.args.now) c.args.view.now c.assign_all.new.view c.in_err-came.field-0.0 _ c.from_residual.ensures.0 c.from_residual.ensures.1 c.in_err-came.ensures

pub returns-in-Ok : goal.returns-in-Ok
returns-in-Ok g c =
    came_on g.B.Base.seen (all_assigned true c.args.status c.args.assigns.now []) (call c.args.name.now c.args.args.now) c.args.view.now c.assign_all.new.view c.call.new.view c.in_ok-came.came c.in-Ok.befores _ c.in_ok-came.ensures c.in-Ok.is c.call.ensures

pub returns-in-Err : goal.returns-in-Err
returns-in-Err g c = came_failed g.B.Base.seen (all_assigned true c.args.status c.args.assigns.now []) (call c.args.name.now c.args.args.now) c.args.view.now c.assign_all.new.view c.in_ok-came.came c.in-Err.why c.in_ok-came.ensures c.in-Err.is
