use Rattle.std.proofs.Common.{◌≡◌, ◌⊎◌, ◌≤◌, length, inl, inr, sym, ◌∙◌, arith}
use Rattle.util_text.proofs.Copied.{from-done, from-stands}
use Rattle.util_text.proofs.ends.lines_from.Goals as goal
use Rattle.util_text.proofs.ends.lines_from.Goals.{else-lines-test, then-lines-test+then-start-text}

pub returns : goal.returns
returns c = λ n stands.
    let text = c.args.text.now in
    let done : (c.lines.before ≡ 0) ⊎ (length text ≤ c.lines.start) =
    elim c.lines-test.branch [ else-lines-test w ↦ inl (omega arith) | then-lines-test+then-start-text w ↦ inr (omega arith) ] in
    c.split_at-2.ensures.back
    ∙ sym (c.lines.invariant.copied ∙ from-done text c.lines.start c.lines.before done)
    ∙ from-stands text c.args.number n (omega arith) stands
