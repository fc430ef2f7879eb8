use Rattle.hs_world.specs.declared.effect.Fd.TheVariants.{Two}
use Rattle.hs_view.proofs.Acting.{acts_answering, acts_answering_halt, acts_on}
use Rattle.util_common.specs.Messages.{message_on}
use Rattle.util_common.specs.Operands.{emitted}
use Rattle.util_common.specs.declared.content.Content.TheVariants.{Refused}
use Rattle.util_text.specs.Gathering.{content_gathered, gathered}
use Rattle.util_text.proofs.gathering.refuse_operand.Goals as goal

pub returns-in_err-status : goal.returns-in_err-status
returns-in_err-status g c =
    let told = emitted Two (message_on c.args.utility.now c.args.word.now c.args.why) 1 in
    let next = c.write_message.new.view in
    let h = c.in_err-status.field-0.0 in
    acts_on g.B.Base.seen (content_gathered c.args.utility.now c.args.so_far c.args.word.now (Refused c.args.why)) c.args.view.now next h _ c.from_residual.ensures.0 c.from_residual.ensures.1
    (acts_answering_halt g.B.Base.seen (gathered c.args.so_far.contents) told c.args.view.now next h c.in_err-status.ensures)

pub returns : goal.returns
returns g c =
    acts_answering g.B.Base.seen (gathered c.args.so_far.contents) (emitted Two (message_on c.args.utility.now c.args.word.now c.args.why) 1) c.args.view.now c.write_message.new.view c.in_ok-status.status c.in_ok-status.ensures
