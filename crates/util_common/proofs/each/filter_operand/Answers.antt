use Rattle.std.proofs.Common.{List, ℕ, subst}
use Rattle.std.specs.Prelude.{Ok}
use Rattle.hs_world.specs.declared.effect.Effect.TheVariants.{Emit}
use Rattle.hs_world.specs.declared.effect.Fd.TheVariants.{Two}
use Rattle.hs_view.specs.Acts.{Acts}
use Rattle.hs_view.proofs.Acting.{acts_first}
use Rattle.util_common.specs.Messages.{message_on}
use Rattle.util_common.specs.Operands.{content_taken, content_written, operand_written, progress_of}
use Rattle.util_common.specs.declared.content.Content.{Content}
use Rattle.util_common.proofs.Filters.{filtered_emit, filtered_on, filtered_then}
use Rattle.util_common.proofs.each.filter_operand.Goals as goal

pub returns-in_err-bytes : goal.returns-in_err-bytes
returns-in_err-bytes g c = λ text before s.
    let p = progress_of before c.args.status in
    let h = c.in_err-bytes.field-0.0 in
    filtered_on (λ (b : List (List ℕ)). g.F.Filter.writes c.args.filter.now text b) g.B.Base.seen (operand_written c.args.utility.now text p c.args.word.now) c.args.view.now c.take_content.new.view h _ c.from_residual.ensures.0 c.from_residual.ensures.1
    (acts_first g.B.Base.seen (content_taken c.args.word.now) (content_written c.args.utility.now text p c.args.word.now) c.args.view.now c.take_content.new.view h c.in_err-bytes.ensures)

pub returns-in-Bytes : goal.returns-in-Bytes
returns-in-Bytes g c = λ text before s.
    filtered_then (λ (b : List (List ℕ)). g.F.Filter.writes c.write_content.new.filter text b) g.B.Base.seen (content_taken c.args.word.now) (content_written c.args.utility.now text (progress_of before c.args.status) c.args.word.now) c.args.view.now
    c.take_content.new.view c.write_content.new.view _ c.write_content.result
    (subst (λ (x : Content). Acts g.B.Base.seen (content_taken c.args.word.now) c.args.view.now c.take_content.new.view (Ok x)) c.in-Bytes.is c.in_ok-bytes.ensures)
    (c.write_content.ensures c.args.utility.now text before s)

pub returns-in-Refused : goal.returns-in-Refused
returns-in-Refused g c = λ text before s.
    let stands = λ (b : List (List ℕ)). g.F.Filter.writes c.args.filter.now text b in
    filtered_then stands g.B.Base.seen (content_taken c.args.word.now) (content_written c.args.utility.now text (progress_of before c.args.status) c.args.word.now) c.args.view.now c.take_content.new.view c.write_message.new.view _ c.write_message.result
    (subst (λ (x : Content). Acts g.B.Base.seen (content_taken c.args.word.now) c.args.view.now c.take_content.new.view (Ok x)) c.in-Refused.is c.in_ok-bytes.ensures)
    (filtered_emit stands g.B.Base.seen (Emit Two (message_on c.args.utility.now c.args.word.now c.in-Refused.why)) before 1 c.take_content.new.view c.write_message.new.view c.write_message.result s c.write_message.ensures)
