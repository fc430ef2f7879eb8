use Rattle.std.proofs.Common.{subst}
use Rattle.std.specs.Prelude.{Ok}
use Rattle.hs_view.specs.Acts.{Acts}
use Rattle.hs_view.proofs.Acting.{acts_first, acts_memory_on, acts_on, acts_then}
use Rattle.util_common.specs.Operands.{content_taken}
use Rattle.util_common.specs.declared.content.Content.{Content}
use Rattle.util_common.specs.declared.content.Content.TheVariants.{Bytes}
use Rattle.util_text.specs.Gathering.{content_gathered, operand_gathered}
use Rattle.util_text.proofs.gathering.gather_operand.Goals as goal

pub returns-in_err-bytes : goal.returns-in_err-bytes
returns-in_err-bytes g c =
    let u = c.args.utility.now in
    let word = c.args.word.now in
    let h = c.in_err-bytes.field-0.0 in
    acts_on g.B.Base.seen (operand_gathered u c.args.so_far word) c.args.view.now c.take_content.new.view h _ c.from_residual.ensures.0 c.from_residual.ensures.1
    (acts_first g.B.Base.seen (content_taken word) (content_gathered u c.args.so_far word) c.args.view.now c.take_content.new.view h c.in_err-bytes.ensures)

pub returns-in-Refused : goal.returns-in-Refused
returns-in-Refused g c =
    let u = c.args.utility.now in
    let word = c.args.word.now in
    acts_then g.B.Base.seen (content_taken word) (content_gathered u c.args.so_far word) c.args.view.now c.take_content.new.view c.refuse_operand.new.view _ c.refuse_operand.result
    (subst (λ (x : Content). Acts g.B.Base.seen (content_taken word) c.args.view.now c.take_content.new.view (Ok x)) c.in-Refused.is c.in_ok-bytes.ensures) c.refuse_operand.ensures

pub returns-in_err-with_content-in-Bytes : goal.returns-in_err-with_content-in-Bytes
returns-in_err-with_content-in-Bytes g c =
    let u = c.args.utility.now in
    let word = c.args.word.now in
    let next = c.take_content.new.view in
    acts_then g.B.Base.seen (content_taken word) (content_gathered u c.args.so_far word) c.args.view.now next next _ _ (subst (λ (x : Content). Acts g.B.Base.seen (content_taken word) c.args.view.now next (Ok x)) c.in-Bytes.is c.in_ok-bytes.ensures)
    (acts_memory_on g.B.Base.seen (content_gathered u c.args.so_far word (Bytes c.in-Bytes.bytes)) next _ c.from_residual-in_err-with_content-in-Bytes.ensures.0 c.from_residual-in_err-with_content-in-Bytes.ensures.1)
