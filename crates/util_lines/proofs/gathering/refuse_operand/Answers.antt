use Rattle.hs_world.specs.declared.effect.Fd.TheVariants.{Two}
use Rattle.hs_view.proofs.Acting.{acts_answering, acts_answering_halt, acts_on}
use Rattle.util_common.specs.Messages.{message_on}
use Rattle.util_common.specs.Operands.{emitted}
use Rattle.util_lines.specs.Gathering.{gathered, refused_gathered}
use Rattle.util_lines.proofs.gathering.refuse_operand.Goals as goal

pub returns-in_err-status : goal.returns-in_err-status
returns-in_err-status g c =
    let reader = c.args.reader.now in
    let h = c.in_err-status.field-0.0 in
    let next = c.write_refusal.new.view in
    acts_on g.B.Base.seen (refused_gathered reader.utility.now reader.bad c.args.so_far c.args.word.now c.args.why) c.args.view.now next h _ c.from_residual.ensures.0 c.from_residual.ensures.1
    (acts_answering_halt g.B.Base.seen (gathered c.args.so_far.contents) (emitted Two (message_on reader.utility.now c.args.word.now c.args.why) reader.bad) c.args.view.now next h c.in_err-status.ensures)

pub returns : goal.returns
returns g c =
    let reader = c.args.reader.now in
    acts_answering g.B.Base.seen (gathered c.args.so_far.contents) (emitted Two (message_on reader.utility.now c.args.word.now c.args.why) reader.bad) c.args.view.now c.write_refusal.new.view c.in_ok-status.status c.in_ok-status.ensures
