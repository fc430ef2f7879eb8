use Rattle.hs_view.proofs.Acting.{acts_first, acts_on, acts_then}
use Rattle.util_common.specs.Operands.{input_read}
use Rattle.util_text.specs.Teeing.{copied, input_copied}
use Rattle.util_text.proofs.teeing.copy_input.Goals as goal

pub returns-in_err-text : goal.returns-in_err-text
returns-in_err-text g c =
    let next = c.read_input.new.view in
    let h = c.in_err-text.field-0.0 in
    acts_on g.B.Base.seen (input_copied c.args.append c.args.words.now) c.args.view.now next h _ c.from_residual.ensures.0 c.from_residual.ensures.1
    (acts_first g.B.Base.seen input_read (copied c.args.append c.args.words.now) c.args.view.now next h c.in_err-text.ensures)

pub returns : goal.returns
returns g c =
    acts_then g.B.Base.seen input_read (copied c.args.append c.args.words.now) c.args.view.now c.read_input.new.view c.copy_text.new.view c.in_ok-text.text c.copy_text.result c.in_ok-text.ensures c.copy_text.ensures
