use Rattle.std.proofs.Common.{◌≡◌, ℕ, ◌++◌, length, take, drop, sym, ◌∙◌, ap, arith}
use Rattle.util_text.specs.Lines.{first_lines}
use Rattle.util_text.proofs.Copied.{first-step, first-none, first-all, first-stands}
use Rattle.util_text.proofs.ends.first_lines.Goals as goal

pub lines-preserved : goal.lines-preserved
lines-preserved c = record {
  within = omega arith;
  copied = c.lines.invariant.copied
      ∙ first-step c.args.text.now c.split_at.result.1.now c.lines.end c.lines.left c.line_len-end.result c.split_at.ensures.back (omega arith)
      (c.line_len-end.ensures.line (omega arith));
}

pub returns-then-end-text : goal.returns-then-end-text
returns-then-end-text c = λ n stands.
    let text = c.args.text.now in
    let all : c.lines.end ≡ length text = omega arith in
    sym (c.lines.invariant.copied ∙ ap (λ (e : ℕ). take e text ++ first_lines c.lines.left (drop e text)) all ∙ first-all text c.lines.left)
    ∙ first-stands text c.args.count n (omega arith) stands

pub returns : goal.returns
returns c = λ n stands.
    let text = c.args.text.now in
    let none : c.lines.left ≡ 0 = omega arith in
    c.split_at-2.ensures.front
    ∙ sym (c.lines.invariant.copied ∙ ap (λ (m : ℕ). take c.lines.end text ++ first_lines m (drop c.lines.end text)) none ∙ first-none text c.lines.end)
    ∙ first-stands text c.args.count n (omega arith) stands
