use Rattle.std.specs.Prelude.{codes}
use Rattle.hs_view.proofs.Acting.{acts_first, acts_on, acts_then}
use Rattle.util_lines.specs.Comparing.{merge_written, two_compared}
use Rattle.util_lines.specs.Gathering.{none_yet, operands_gathered}
use Rattle.util_lines.proofs.comparing.compare_two.Goals as goal

pub returns-in_err-read : goal.returns-in_err-read
returns-in_err-read g c =
    let words = c.args.operands.now in
    let next = c.gather.new.view in
    let h = c.in_err-read.field-0.0 in
    acts_on g.B.Base.seen (two_compared c.args.columns words) c.args.view.now next h _ c.from_residual.ensures.0 c.from_residual.ensures.1
    (acts_first g.B.Base.seen (operands_gathered (codes "comm") 1 none_yet words) (merge_written c.args.columns) c.args.view.now next h c.in_err-read.ensures)

pub returns : goal.returns
returns g c =
    acts_then g.B.Base.seen (operands_gathered (codes "comm") 1 none_yet c.args.operands.now) (merge_written c.args.columns) c.args.view.now c.gather.new.view c.write_merge.new.view c.in_ok-read.read c.write_merge.result c.in_ok-read.ensures c.write_merge.ensures
