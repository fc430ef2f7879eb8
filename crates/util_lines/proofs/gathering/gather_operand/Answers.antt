use Rattle.hs_view.proofs.Acting.{acts_first, acts_on, acts_then}
use Rattle.util_common.specs.Operands.{content_taken}
use Rattle.util_lines.specs.Gathering.{content_gathered, operand_gathered}
use Rattle.util_lines.proofs.gathering.gather_operand.Goals as goal

pub returns-in_err-content : goal.returns-in_err-content
returns-in_err-content g c =
    let reader = c.args.reader.now in
    let word = c.args.word.now in
    let next = c.take_content.new.view in
    let h = c.in_err-content.field-0.0 in
    acts_on g.B.Base.seen (operand_gathered reader.utility.now reader.bad c.args.so_far word) c.args.view.now next h _ c.from_residual.ensures.0 c.from_residual.ensures.1
    (acts_first g.B.Base.seen (content_taken word) (content_gathered reader.utility.now reader.bad c.args.so_far word) c.args.view.now next h c.in_err-content.ensures)

pub returns : goal.returns
returns g c =
    let reader = c.args.reader.now in
    let word = c.args.word.now in
    acts_then g.B.Base.seen (content_taken word) (content_gathered reader.utility.now reader.bad c.args.so_far word) c.args.view.now c.take_content.new.view c.gather_content.new.view c.in_ok-content.content c.gather_content.result
    c.in_ok-content.ensures c.gather_content.ensures
