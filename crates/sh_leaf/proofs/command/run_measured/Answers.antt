use Rattle.std.proofs.Common.{List, ℕ, subst}
use Rattle.hs_view.specs.Acts.{Acts}
use Rattle.hs_view.proofs.Acting.{acts_first, acts_on, acts_then}
use Rattle.sh_leaf.specs.Command.{measured_run, texts_run}
use Rattle.sh_leaf.specs.Expanding.{measured_done}
use Rattle.sh_leaf.proofs.command.run_measured.Goals as goal

pub returns-in_err-measure : goal.returns-in_err-measure
returns-in_err-measure g c =
    acts_on g.B.Base.seen (measured_run c.args.assigns.now c.args.status c.args.texts.now) c.args.view.now c.measure.new.view c.in_err-measure.field-0.0 _ c.from_residual.ensures.0 c.from_residual.ensures.1
    (acts_first g.B.Base.seen (measured_done c.args.texts.now) (λ x. texts_run c.args.assigns.now c.args.status c.args.texts.now) c.args.view.now c.measure.new.view c.in_err-measure.field-0.0 c.in_err-measure.ensures)

pub returns : goal.returns
returns g c =
    acts_then g.B.Base.seen (measured_done c.args.texts.now) (λ x. texts_run c.args.assigns.now c.args.status c.args.texts.now) c.args.view.now c.measure.new.view c.run_texts.new.view tt c.run_texts.result c.in_ok-measure.ensures
    (subst (λ (ts : List (List ℕ)). Acts g.B.Base.seen (texts_run c.args.assigns.now c.args.status ts) c.measure.new.view c.run_texts.new.view c.run_texts.result) c.as_slice.ensures c.run_texts.ensures)
