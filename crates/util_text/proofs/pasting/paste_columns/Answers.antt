use Rattle.std.specs.Prelude.{codes}
use Rattle.hs_view.proofs.Acting.{acts_first, acts_on, acts_then}
use Rattle.util_text.specs.Gathering.{none_gathered, operands_gathered}
use Rattle.util_text.specs.Pasting.{columns_written, gathered_written}
use Rattle.util_text.specs.Turns.{turns}
use Rattle.util_text.specs.declared.gathering.Gathered.{Gathered}
use Rattle.util_text.proofs.pasting.paste_columns.Goals as goal

pub returns-in_err-read : goal.returns-in_err-read
returns-in_err-read g c =
    let words = c.args.words.now in
    let ds = turns c.args.delimiters.now in
    let next = c.gather_operands.new.view in
    let h = c.in_err-read.field-0.0 in
    acts_on g.B.Base.seen (columns_written ds words) c.args.view.now next h _ c.from_residual.ensures.0 c.from_residual.ensures.1
    (acts_first g.B.Base.seen (operands_gathered (codes "paste") none_gathered words) (λ (read : Gathered). gathered_written ds words read.contents read.status) c.args.view.now next h c.in_err-read.ensures)

pub returns : goal.returns
returns g c =
    let words = c.args.words.now in
    let ds = turns c.args.delimiters.now in
    acts_then g.B.Base.seen (operands_gathered (codes "paste") none_gathered words) (λ (read : Gathered). gathered_written ds words read.contents read.status) c.args.view.now c.gather_operands.new.view c.write_gathered.new.view c.in_ok-read.read c.write_gathered.result
    c.in_ok-read.ensures c.write_gathered.ensures
