use Rattle.std.specs.Prelude.{codes, option_copied}
use Rattle.hs_view.proofs.Acting.{acts_first, acts_on, acts_then}
use Rattle.util_lines.specs.Gathering.{none_yet, operands_gathered}
use Rattle.util_lines.specs.Uniquing.{input_uniqued, runs_written}
use Rattle.util_lines.proofs.uniquing.uniq_input.Goals as goal

pub returns-in_err-read : goal.returns-in_err-read
returns-in_err-read g c =
    let output = option_copied c.args.target in
    let input = c.args.input.now in
    let next = c.gather.new.view in
    let h = c.in_err-read.field-0.0 in
    acts_on g.B.Base.seen (input_uniqued c.args.mode input output) c.args.view.now next h _ c.from_residual.ensures.0 c.from_residual.ensures.1
    (acts_first g.B.Base.seen (operands_gathered (codes "uniq") 1 none_yet input) (runs_written c.args.mode output) c.args.view.now next h c.in_err-read.ensures)

pub returns : goal.returns
returns g c =
    acts_then g.B.Base.seen (operands_gathered (codes "uniq") 1 none_yet c.args.input.now) (runs_written c.args.mode (option_copied c.args.target)) c.args.view.now c.gather.new.view c.write_input.new.view c.in_ok-read.read c.write_input.result
    c.in_ok-read.ensures c.write_input.ensures
