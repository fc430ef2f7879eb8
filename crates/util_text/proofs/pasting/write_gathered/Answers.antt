use Rattle.hs_world.specs.declared.effect.Fd.TheVariants.{One}
use Rattle.hs_view.proofs.Acting.{acts_answer, acts_as}
use Rattle.util_common.specs.Operands.{emitted}
use Rattle.util_text.specs.Pasting.{gathered_written}
use Rattle.util_text.specs.Turns.{turns}
use Rattle.util_text.proofs.Sided.{none_written, rows_written}
use Rattle.util_text.proofs.pasting.write_gathered.Goals as goal

pub returns-then-read-ne0 : goal.returns-then-read-ne0
returns-then-read-ne0 g c =
    let ds = turns c.args.delimiters.now in
    let words = c.args.words.now in
    let read = c.args.read.now in
    acts_answer g.B.Base.seen (gathered_written ds words read.contents read.status) c.args.view.now read.status (λ u s. none_written ds words read.contents read.status u c.if-read-ne0.true)

pub returns : goal.returns
returns g c =
    let ds = turns c.args.delimiters.now in
    let words = c.args.words.now in
    let read = c.args.read.now in
    acts_as g.B.Base.seen (emitted One c.in_ok-text.text 0) (gathered_written ds words read.contents read.status) c.args.view.now c.emit.new.view c.emit.result
    (λ u s. rows_written ds words c.as_slice.result.now read.contents read.status c.in_ok-text.text u c.in_ok-text.ensures c.as_slice.ensures c.if-read-ne0.false) c.emit.ensures
