use Rattle.std.specs.Prelude.{Ok, Err}
use Rattle.hs_view.specs.Acts.{then_by}
use Rattle.hs_view.proofs.Acting.{acts_answering, acts_answering_halt, acts_first, acts_on, acts_then}
use Rattle.sh_leaf.specs.Command.{call, lent, set_status}
use Rattle.sh_leaf.specs.Expanding.{Came}
use Rattle.sh_leaf.specs.declared.outcome.Outcome.{Outcome}
use Rattle.sh_leaf.proofs.command.call.Goals as goal

abbrev came : Outcome → Came Outcome
came outcome = Ok outcome

pub returns-in_err-status : goal.returns-in_err-status
returns-in_err-status g c =
    let one = lent c.args.name.now c.args.args.now c.args.befores in
    let h = c.in_err-status.field-0.0 in
    acts_on g.B.Base.seen (call c.args.name.now c.args.args.now c.args.befores) c.args.view.now c.lend.new.view h _ c.from_residual.ensures.0 c.from_residual.ensures.1
    (acts_answering_halt g.B.Base.seen came (λ w. then_by (one w) set_status w) c.args.view.now c.lend.new.view h (acts_first g.B.Base.seen one set_status c.args.view.now c.lend.new.view h c.in_err-status.ensures))

pub returns-in_err-outcome : goal.returns-in_err-outcome
returns-in_err-outcome g c =
    let one = lent c.args.name.now c.args.args.now c.args.befores in
    let h = c.in_err-outcome.field-0.0 in
    acts_on g.B.Base.seen (call c.args.name.now c.args.args.now c.args.befores) c.args.view.now c.set_status.new.view h _ c.from_residual-in_err-outcome.ensures.0 c.from_residual-in_err-outcome.ensures.1
    (acts_answering_halt g.B.Base.seen came (λ w. then_by (one w) set_status w) c.args.view.now c.set_status.new.view h
    (acts_then g.B.Base.seen one set_status c.args.view.now c.lend.new.view c.set_status.new.view _ (Err h) c.in_ok-status.ensures c.in_err-outcome.ensures))

pub returns : goal.returns
returns g c =
    let one = lent c.args.name.now c.args.args.now c.args.befores in
    acts_answering g.B.Base.seen came (λ w. then_by (one w) set_status w) c.args.view.now c.set_status.new.view c.in_ok-outcome.outcome
    (acts_then g.B.Base.seen one set_status c.args.view.now c.lend.new.view c.set_status.new.view _ (Ok c.in_ok-outcome.outcome) c.in_ok-status.ensures c.in_ok-outcome.ensures)
