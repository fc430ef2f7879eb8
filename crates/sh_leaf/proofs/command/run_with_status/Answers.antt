use Rattle.hs_view.specs.Acts.{then_by}
use Rattle.hs_view.proofs.Acting.{acts_first, acts_on, acts_then}
use Rattle.sh_leaf.specs.Command.{command_came, told}
use Rattle.sh_leaf.proofs.command.run_with_status.Goals as goal

pub returns-in_err-came : goal.returns-in_err-came
returns-in_err-came g c =
    let one = command_came c.args.assigns.now c.args.words.now c.args.status in
    acts_on g.B.Base.seen (λ w. then_by (one w) told w) c.args.view.now c.run_words.new.view c.in_err-came.field-0.0 _ c.from_residual.ensures.0 c.from_residual.ensures.1
    (acts_first g.B.Base.seen one told c.args.view.now c.run_words.new.view c.in_err-came.field-0.0 c.in_err-came.ensures)

pub returns : goal.returns
returns g c =
    acts_then g.B.Base.seen (command_came c.args.assigns.now c.args.words.now c.args.status) told c.args.view.now c.run_words.new.view c.tell.new.view c.in_ok-came.came c.tell.result c.in_ok-came.ensures c.tell.ensures
