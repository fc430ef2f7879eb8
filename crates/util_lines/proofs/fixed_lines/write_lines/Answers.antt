use Rattle.std.proofs.Common.{List, ℕ, ◌+◌, ◌++◌, arith}
use Rattle.util_lines.specs.FixedLines.{has_selected, lines_from, selects}
use Rattle.util_lines.specs.Splitting.{lines}
use Rattle.util_lines.proofs.LinesWritten.{any_more, line_more}
use Rattle.util_lines.proofs.fixed_lines.write_lines.Goals as goal

pub lines-preserved : goal.lines-preserved
lines-preserved c =
    let flags = c.args.search.now.flags in
    let patterns = c.args.search.now.patterns in
    let prefix = c.args.prefix.now in
    let content = c.args.content.now in
    let line = c.in-Some.line.now in
    let rest = c.lines.rest.now in
    let more = c.in-Some.more.now in
    record {
      written = line_more flags patterns prefix (c.lines.number + 1) c.lines.out.items c.write_where.new.out.items (c.args.out.now.items ++ lines_from flags patterns prefix 1 (lines content)) (lines rest) (lines more) line
          c.lines.invariant.written c.in-Some.ensures.line c.in_ok-selected.ensures.line;
      found = any_more (λ (l : List ℕ). selects flags patterns l) (lines rest) (lines more) line c.lines.any c.in_ok-selected.selected (has_selected flags patterns content)
          c.lines.invariant.found c.in-Some.ensures.line c.in_ok-selected.ensures.selected;
      within = omega (arith, c.lines.invariant.within, c.in-Some.ensures.shorter);
    }
