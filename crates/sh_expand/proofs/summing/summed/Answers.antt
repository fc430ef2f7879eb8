use Rattle.sh_expand.proofs.Telling.{sums_halt, sums_short, sums_told}
use Rattle.sh_expand.proofs.summing.summed.Goals as goal

pub returns-in_err-sum : goal.returns-in_err-sum
returns-in_err-sum g c = sums_halt g.B.Base.seen c.args.text.now c.args.view.now c.sum_in.new.view c.in_err-sum.field-0.0 _ c.from_residual.ensures.0 c.from_residual.ensures.1 c.in_err-sum.ensures.acts

pub returns-in_err-shown : goal.returns-in_err-shown
returns-in_err-shown g c = sums_short g.B.Base.seen c.args.text.now c.args.view.now c.sum_in.new.view c.in_ok-sum.sum _ c.from_residual-in_err-shown.ensures.0 c.from_residual-in_err-shown.ensures.1 c.in_ok-sum.ensures.acts

pub returns : goal.returns
returns g c = sums_told g.B.Base.seen c.args.text.now c.args.view.now c.sum_in.new.view c.in_ok-sum.sum c.in_ok-shown.shown c.in_ok-sum.ensures.acts c.in_ok-shown.ensures
