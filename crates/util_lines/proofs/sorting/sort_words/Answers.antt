use Rattle.std.specs.Prelude.{codes}
use Rattle.hs_view.proofs.Acting.{acts_first, acts_on, acts_then}
use Rattle.util_lines.specs.Sorting.{sorted_written, words_sorted}
use Rattle.util_lines.specs.Gathering.{none_yet, operands_gathered}
use Rattle.util_lines.proofs.sorting.sort_words.Goals as goal

pub returns-in_err-read : goal.returns-in_err-read
returns-in_err-read g c =
    let words = c.args.words.now in
    let next = c.gather.new.view in
    let h = c.in_err-read.field-0.0 in
    acts_on g.B.Base.seen (words_sorted c.args.sorting words) c.args.view.now next h _ c.from_residual.ensures.0 c.from_residual.ensures.1
    (acts_first g.B.Base.seen (operands_gathered (codes "sort") 2 none_yet words) (sorted_written c.args.sorting) c.args.view.now next h c.in_err-read.ensures)

pub returns : goal.returns
returns g c =
    acts_then g.B.Base.seen (operands_gathered (codes "sort") 2 none_yet c.args.words.now) (sorted_written c.args.sorting) c.args.view.now c.gather.new.view c.write_sorted.new.view c.in_ok-read.read c.write_sorted.result c.in_ok-read.ensures c.write_sorted.ensures
