use Rattle.sh_leaf.proofs.Coming.{came_failed, came_halt, came_on}
use Rattle.sh_leaf.specs.Assigning.{set_var, value_of}
use Rattle.sh_leaf.proofs.assigning.assign.Goals as goal

pub returns-in_err-came : goal.returns-in_err-came
returns-in_err-came g c =
    came_halt g.B.Base.seen (value_of c.args.status c.args.assign.now.1) (set_var c.args.exports c.args.assign.now.0) c.args.view.now c.value_of.new.view c.in_err-came.field-0.0 _ c.from_residual.ensures.0 c.from_residual.ensures.1 c.in_err-came.ensures

pub returns-in-Ok : goal.returns-in-Ok
returns-in-Ok g c =
    came_on g.B.Base.seen (value_of c.args.status c.args.assign.now.1) (set_var c.args.exports c.args.assign.now.0) c.args.view.now c.value_of.new.view c.set_var.new.view c.in_ok-came.came c.in-Ok.text _ c.in_ok-came.ensures c.in-Ok.is c.set_var.ensures

pub returns-in-Err : goal.returns-in-Err
returns-in-Err g c = came_failed g.B.Base.seen (value_of c.args.status c.args.assign.now.1) (set_var c.args.exports c.args.assign.now.0) c.args.view.now c.value_of.new.view c.in_ok-came.came c.in-Err.why c.in_ok-came.ensures c.in-Err.is
