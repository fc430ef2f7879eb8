use Rattle.std.proofs.Common.{◌≡◌, ◌++◌, false, sym, ◌∙◌}
use Rattle.util_text.specs.Paste.{cells, have_ended, one_line, paste}
use Rattle.util_text.specs.Turns.{turns}
use Rattle.util_text.proofs.Buffers.{keeps_written}
use Rattle.util_text.proofs.Pasted.{rows_smaller, rows_step}
use Rattle.util_text.proofs.joining.paste.Goals as goal

pub rows-smaller : goal.rows-smaller
rows-smaller c =
    let e : have_ended c.rows.columns c.rows.input ≡ false = sym c.have_ended.ensures ∙ c.rows-test.true in
    rows_smaller c.rows.columns c.write_row.new.columns c.rows.input c.write_row.new.input e c.in_ok-write_row.ensures.columns c.in_ok-write_row.ensures.input

pub rows-preserved : goal.rows-preserved
rows-preserved c =
    let ds = turns c.args.delimiters.now in
    let out = c.rows.out.items in
    let new = c.write_row.new.out.items in
    let e : have_ended c.rows.columns c.rows.input ≡ false = sym c.have_ended.ensures ∙ c.rows-test.true in
    record {
      kept = keeps_written c.args.out.now.items out (one_line ds (cells c.rows.columns c.rows.input)) new c.rows.invariant.kept c.in_ok-write_row.ensures.ok;
      going = rows_step ds c.rows.columns c.write_row.new.columns c.rows.input c.write_row.new.input out (c.args.out.now.items ++ paste ds c.args.columns.now c.args.input.now) new e
          c.in_ok-write_row.ensures.columns c.in_ok-write_row.ensures.input c.in_ok-write_row.ensures.ok c.rows.invariant.going;
    }
