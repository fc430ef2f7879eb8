use Rattle.std.specs.Prelude.{Ok}
use Rattle.hs_view.proofs.Acting.{acts_answering, acts_answering_halt, acts_on}
use Rattle.sh_leaf.specs.Command.{kept, set_status}
use Rattle.sh_leaf.specs.Expanding.{Came}
use Rattle.sh_leaf.specs.declared.outcome.Outcome.{Outcome}
use Rattle.sh_leaf.proofs.command.keep.Goals as goal

abbrev came : Outcome → Came Outcome
came outcome = Ok outcome

pub returns-in_err-outcome : goal.returns-in_err-outcome
returns-in_err-outcome g c =
    let h = c.in_err-outcome.field-0.0 in
    acts_on g.B.Base.seen (kept c.args.befores) c.args.view.now c.set_status.new.view h _ c.from_residual.ensures.0 c.from_residual.ensures.1
    (acts_answering_halt g.B.Base.seen came (set_status 0) c.args.view.now c.set_status.new.view h c.in_err-outcome.ensures)

pub returns : goal.returns
returns g c = acts_answering g.B.Base.seen came (set_status 0) c.args.view.now c.set_status.new.view c.in_ok-outcome.outcome c.in_ok-outcome.ensures
