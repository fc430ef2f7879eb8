use Rattle.std.proofs.Common.{List, ℕ, ◌++◌, arith}
use Rattle.util_text.specs.Fold.{fold_line, fold}
use Rattle.util_text.proofs.Buffers.{keeps_written}
use Rattle.util_text.proofs.Folds.{lines-step}
use Rattle.util_text.proofs.folding.fold.Goals as goal

pub lines-preserved : goal.lines-preserved
lines-preserved c =
    let old = c.args.out.now.items in
    let out = c.lines.out.items in
    let new = c.fold_line.new.out.items in
    record {
      kept = keeps_written old out (fold_line c.args.width c.in-Some.line.now) new c.lines.invariant.kept (c.in_ok-fold_line.ensures.ok c.args.width (omega arith));
      written = λ n stands. lines-step (λ (line : List ℕ). fold_line n line) out new (old ++ fold n c.args.text.now) c.lines.rest.now c.in-Some.line.now c.in-Some.more.now
          c.in-Some.ensures.line (c.lines.invariant.written n stands) (c.in_ok-fold_line.ensures.ok n stands);
    }
