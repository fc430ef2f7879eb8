use Rattle.hs_view.proofs.Acting.{acts_answering, acts_answering_halt, acts_on}
use Rattle.util_common.specs.Operands.{input_read, input_taken}
use Rattle.util_common.specs.declared.content.Content.TheVariants.{Bytes}
use Rattle.util_common.proofs.content.take_input.Goals as goal

pub returns-in_err-input : goal.returns-in_err-input
returns-in_err-input g c =
    acts_on g.B.Base.seen input_taken c.args.view.now c.read_input.new.view c.in_err-input.field-0.0 _ c.from_residual.ensures.0 c.from_residual.ensures.1
    (acts_answering_halt g.B.Base.seen Bytes input_read c.args.view.now c.read_input.new.view c.in_err-input.field-0.0 c.in_err-input.ensures)

pub returns : goal.returns
returns g c = acts_answering g.B.Base.seen Bytes input_read c.args.view.now c.read_input.new.view c.in_ok-input.input c.in_ok-input.ensures
