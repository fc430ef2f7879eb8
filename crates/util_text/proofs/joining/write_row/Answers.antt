use Rattle.std.proofs.Common.{◌≡◌, ◌<◌, ◌+◌, List, drop, get_or, length, ◌∙◌, ap, refl, arith}
use Rattle.util_text.specs.Paste.{before, cell, column_left}
use Rattle.util_text.specs.Turns.{turns}
use Rattle.util_text.specs.declared.column.Column.{Column}
use Rattle.util_text.proofs.Buffers.{keeps_self, keeps_written}
use Rattle.util_text.proofs.Pasted.{cell_step, front_all, front_at, front_step, left_step, rest_from}
use Rattle.util_text.proofs.joining.write_row.Goals as goal

pub cells-init : goal.cells-init
cells-init c = record { kept = keeps_self c.args.out.now.items; columns = refl; input = refl; written = refl }

pub cells-preserved : goal.cells-preserved
cells-preserved c =
    let ds = turns c.args.delimiters.now in
    let columns = c.args.columns.now in
    let n = c.cells.n in
    let item = c.index-columns-n.result in
    let x = get_or c.cells.columns n item in
    let out = c.cells.out.items in
    let one = c.write_before.new.out.items in
    let below : n < length columns = omega (arith, c.cells-test.true, c.cells.auto.columns) in
    let at : x ≡ get_or columns n x = ap (λ (cs : List Column). get_or cs n item) c.cells.invariant.columns ∙ front_at column_left n columns item ∙ ap (λ (v : Column). get_or columns n v) c.index-columns-n.is in
    let d = rest_from columns n x below at in
    record {
      kept = keeps_written c.args.out.now.items one (cell x c.cells.input) c.write_cell.new.out.items (keeps_written c.args.out.now.items out (before ds n) one c.cells.invariant.kept c.in_ok-write_before.ensures.ok) c.in_ok-write_cell.ensures.ok;
      columns = front_step column_left n columns c.cells.columns x c.write_cell.new.column below at c.in_ok-write_cell.ensures.column c.cells.invariant.columns;
      input = left_step x (drop n columns) (drop (n + 1) columns) c.cells.input c.write_cell.new.input _ d c.in_ok-write_cell.ensures.input c.cells.invariant.input;
      written = cell_step ds n x (drop n columns) (drop (n + 1) columns) c.cells.input c.write_cell.new.input out one c.write_cell.new.out.items _ d c.in_ok-write_cell.ensures.input c.in_ok-write_before.ensures.ok
          c.in_ok-write_cell.ensures.ok c.cells.invariant.written;
    }

pub returns-clause-columns : goal.returns-clause-columns
returns-clause-columns c =
    c.cells.invariant.columns ∙ front_all column_left c.cells.n c.args.columns.now (omega (arith, c.cells-test.false, c.cells.auto.columns))
