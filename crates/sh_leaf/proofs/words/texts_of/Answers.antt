use Rattle.sh_leaf.proofs.Coming.{came_failed, came_halt, came_on}
use Rattle.sh_param.specs.declared.mode.Context.TheVariants as context
use Rattle.sh_leaf.specs.Expanding.{fields_of, paths_come}
use Rattle.sh_leaf.proofs.words.texts_of.Goals as goal

pub returns-in_err-came : goal.returns-in_err-came
returns-in_err-came g c =
    came_halt g.B.Base.seen (fields_of c.args.words.now context.Command c.args.status) (paths_come) c.args.view.now c.fields_of.new.view c.in_err-came.field-0.0 _ c.from_residual.ensures.0 c.from_residual.ensures.1 c.in_err-came.ensures

pub returns-in-Ok : goal.returns-in-Ok
returns-in-Ok g c =
    came_on g.B.Base.seen (fields_of c.args.words.now context.Command c.args.status) (paths_come) c.args.view.now c.fields_of.new.view c.paths_come.new.view c.in_ok-came.came c.in-Ok.fields _ c.in_ok-came.ensures c.in-Ok.is c.paths_come.ensures

pub returns-in-Err : goal.returns-in-Err
returns-in-Err g c = came_failed g.B.Base.seen (fields_of c.args.words.now context.Command c.args.status) (paths_come) c.args.view.now c.fields_of.new.view c.in_ok-came.came c.in-Err.why c.in_ok-came.ensures c.in-Err.is
