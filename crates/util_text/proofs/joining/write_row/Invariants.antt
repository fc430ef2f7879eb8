use Rattle.std.proofs.Common.{◌≡◌, ◌++◌, drop}
use Rattle.util_text.specs.Buffer.{Keeps}
use Rattle.util_text.specs.Paste.{cells, column_left, joined, row_left}
use Rattle.util_text.specs.Turns.{turns}
use Rattle.util_text.proofs.Pasted.{front}
use Rattle.util_text.proofs.joining.write_row.Given as goal

abbrev pub invariant-cells : goal.invariant-cells
invariant-cells l = record {
  kept : Keeps l.fn.out.items l.out.items;
  columns : l.columns ≡ front column_left l.n l.fn.columns;
  input : row_left (drop l.n l.fn.columns) l.input ≡ row_left l.fn.columns l.fn.input;
  written : l.out.items ++ joined (turns l.delimiters) l.n (cells (drop l.n l.fn.columns) l.input) ≡ l.fn.out.items ++ joined (turns l.delimiters) 0 (cells l.fn.columns l.fn.input);
}
