use Rattle.sh_leaf.proofs.Coming.{came_failed, came_halt, came_on}
use Rattle.sh_leaf.specs.Command.{measured_run}
use Rattle.sh_leaf.specs.Expanding.{texts_of}
use Rattle.sh_leaf.proofs.command.run_words.Goals as goal

pub returns-in_err-came : goal.returns-in_err-came
returns-in_err-came g c =
    came_halt g.B.Base.seen (texts_of c.args.words.now c.args.status) (measured_run c.args.assigns.now c.args.status) c.args.view.now c.texts_of.new.view c.in_err-came.field-0.0 _ c.from_residual.ensures.0 c.from_residual.ensures.1 c.in_err-came.ensures

pub returns-in-Ok : goal.returns-in-Ok
returns-in-Ok g c =
    came_on g.B.Base.seen (texts_of c.args.words.now c.args.status) (measured_run c.args.assigns.now c.args.status) c.args.view.now c.texts_of.new.view c.run_measured.new.view c.in_ok-came.came c.in-Ok.texts _ c.in_ok-came.ensures c.in-Ok.is c.run_measured.ensures

pub returns-in-Err : goal.returns-in-Err
returns-in-Err g c = came_failed g.B.Base.seen (texts_of c.args.words.now c.args.status) (measured_run c.args.assigns.now c.args.status) c.args.view.now c.texts_of.new.view c.in_ok-came.came c.in-Err.why c.in_ok-came.ensures c.in-Err.is
