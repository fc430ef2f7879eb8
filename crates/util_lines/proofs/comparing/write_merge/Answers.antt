use Rattle.std.proofs.Common.{List, ℕ, ◌∙◌, ap, arith}
use Rattle.hs_world.specs.declared.effect.Fd.TheVariants.{One}
use Rattle.hs_view.proofs.Acting.{acts_answer, acts_as}
use Rattle.util_common.specs.Operands.{emitted}
use Rattle.util_lines.specs.Comparing.{merge_written}
use Rattle.util_lines.proofs.Compared.{few_contents, two_contents}
use Rattle.util_lines.proofs.comparing.write_merge.Goals as goal

pub returns-in_ok-text-in-len2-up : goal.returns-in_ok-text-in-len2-up
returns-in_ok-text-in-len2-up g c =
    let columns = c.args.columns in
    let read = c.args.read.now in
    let text = c.in_ok-text-in-len2-up in
    acts_as g.B.Base.seen (emitted One text.text read.status) (merge_written columns read) c.args.view.now c.emit.new.view c.emit.result
    (λ u s.
    ap (λ (t : List ℕ). emitted One t read.status u) text.ensures
    ∙ two_contents columns c.as_slice.result.now read.contents c.one-item.result c.two-item.result read.status u c.as_slice.ensures (omega arith) c.one-item.is c.two-item.is) c.emit.ensures

pub returns-in_default : goal.returns-in_default
returns-in_default g c =
    let read = c.args.read.now in
    acts_answer g.B.Base.seen (merge_written c.args.columns read) c.args.view.now read.status
    (λ u s. few_contents c.args.columns c.as_slice.result.now read.contents read.status u c.as_slice.ensures (omega arith))
