use Rattle.std.proofs.Common.{◌≡◌, ℕ, ◌++◌, take, drop, sym, ◌∙◌, ap, arith}
use Rattle.util_text.specs.Lines.{last_lines}
use Rattle.util_text.proofs.Copied.{last-step, last-none, last-all, last-stands}
use Rattle.util_text.proofs.ends.last_lines.Goals as goal

pub lines-preserved : goal.lines-preserved
lines-preserved c = record {
  within = omega arith;
  copied = c.lines.invariant.copied
      ∙ last-step c.args.text.now c.split_at.result.0.now c.lines.start c.lines.wanted c.last_start-start.result c.split_at.ensures.front (omega arith) (omega arith)
      (c.last_start-start.ensures.line (omega arith));
}

pub returns-then-start-eq0 : goal.returns-then-start-eq0
returns-then-start-eq0 c = λ n stands.
    let text = c.args.text.now in
    let zero : c.lines.start ≡ 0 = omega arith in
    sym (c.lines.invariant.copied ∙ ap (λ (s : ℕ). last_lines c.lines.wanted (take s text) ++ drop s text) zero ∙ last-all text c.lines.wanted)
    ∙ last-stands text c.args.count n (omega arith) stands

pub returns : goal.returns
returns c = λ n stands.
    let text = c.args.text.now in
    let none : c.lines.wanted ≡ 0 = omega arith in
    c.split_at-2.ensures.back
    ∙ sym (c.lines.invariant.copied ∙ ap (λ (m : ℕ). last_lines m (take c.lines.start text) ++ drop c.lines.start text) none ∙ last-none text c.lines.start)
    ∙ last-stands text c.args.count n (omega arith) stands
