use Rattle.hs_view.proofs.Acting.{acts_first, acts_on, acts_then}
use Rattle.sh_leaf.specs.Command.{gives_back, lent, utility}
use Rattle.sh_leaf.proofs.command.lend.Goals as goal

pub returns-in_err-status : goal.returns-in_err-status
returns-in_err-status g c =
    let one = utility c.args.name.now c.args.args.now in
    acts_on g.B.Base.seen (lent c.args.name.now c.args.args.now c.args.befores) c.args.view.now c.run_utility.new.view c.in_err-status.field-0.0 _ c.from_residual.ensures.0 c.from_residual.ensures.1
    (acts_first g.B.Base.seen one (gives_back c.args.befores) c.args.view.now c.run_utility.new.view c.in_err-status.field-0.0 c.in_err-status.ensures)

pub returns : goal.returns
returns g c = acts_then g.B.Base.seen (utility c.args.name.now c.args.args.now) (gives_back c.args.befores) c.args.view.now c.run_utility.new.view c.give_back.new.view _ c.give_back.result c.in_ok-status.ensures c.give_back.ensures
