use Rattle.hs_view.proofs.Acting.{acts_first, acts_on, acts_then}
use Rattle.util_common.specs.Operands.{input_read}
use Rattle.util_lines.specs.Translating.{image_written, input_written}
use Rattle.util_lines.proofs.translating.write_input.Goals as goal

pub returns-in_err-text : goal.returns-in_err-text
returns-in_err-text g c = λ job s.
    let next = c.read_input.new.view in
    let h = c.in_err-text.field-0.0 in
    acts_on g.B.Base.seen (input_written job) c.args.view.now next h _ c.from_residual.ensures.0 c.from_residual.ensures.1
    (acts_first g.B.Base.seen input_read (image_written job) c.args.view.now next h c.in_err-text.ensures)

pub returns : goal.returns
returns g c = λ job s.
    acts_then g.B.Base.seen input_read (image_written job) c.args.view.now c.read_input.new.view c.write_image.new.view c.in_ok-text.text c.write_image.result c.in_ok-text.ensures (c.write_image.ensures job s)
