use Rattle.std.proofs.Common.{ℕ, ◌∙◌, ap, take}
use Rattle.util_text.proofs.Pieces.{back_found, back_missing}
use Rattle.util_text.proofs.line.last_start.Goals as goal

pub returns-in-Some-clause-line : goal.returns-in-Some-clause-line
returns-in-Some-clause-line c = λ h.
    back_found c.args.text.now c.split_at.result.0.now c.in-Some.at
    (c.split_at.ensures.front ∙ ap (λ (n : ℕ). take n c.args.text.now) c.saturating_sub.ensures) c.in-Some.ensures.0 c.in-Some.ensures.1

pub returns-in-None-clause-line : goal.returns-in-None-clause-line
returns-in-None-clause-line c = λ h.
    back_missing c.args.text.now c.split_at.result.0.now
    (c.split_at.ensures.front ∙ ap (λ (n : ℕ). take n c.args.text.now) c.saturating_sub.ensures) c.in-None.ensures h
