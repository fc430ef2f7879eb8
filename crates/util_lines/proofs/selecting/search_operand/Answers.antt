use Rattle.hs_view.proofs.Acting.{acts_first, acts_on, acts_then}
use Rattle.util_common.specs.Operands.{content_taken}
use Rattle.util_lines.specs.Selecting.{content_searched, operand_searched}
use Rattle.util_lines.proofs.selecting.search_operand.Goals as goal

pub returns-in_err-content : goal.returns-in_err-content
returns-in_err-content g c =
    let search = c.args.search.now in
    let word = c.args.word.now in
    let next = c.take_content.new.view in
    let h = c.in_err-content.field-0.0 in
    acts_on g.B.Base.seen (operand_searched search c.args.several word c.args.found) c.args.view.now next h _ c.from_residual.ensures.0 c.from_residual.ensures.1
    (acts_first g.B.Base.seen (content_taken word) (content_searched search c.args.several word c.args.found) c.args.view.now next h c.in_err-content.ensures)

pub returns : goal.returns
returns g c =
    let search = c.args.search.now in
    let word = c.args.word.now in
    acts_then g.B.Base.seen (content_taken word) (content_searched search c.args.several word c.args.found) c.args.view.now c.take_content.new.view c.search_taken.new.view c.in_ok-content.content c.search_taken.result
    c.in_ok-content.ensures c.search_taken.ensures
