use Rattle.std.proofs.Common.{ℕ, ◌+◌, List, ◌∷◌, drop, sym, ◌∙◌, ap}
use Rattle.util_lines.specs.Splitting.{lines}
use Rattle.util_lines.proofs.Splits.{lines_found, lines_missing, some-from_test}
use Rattle.util_lines.proofs.splitting.split_line.Goals as goal

pub returns-in-Some-clause-line : goal.returns-in-Some-clause-line
returns-in-Some-clause-line c =
    let text = c.args.text.now in
    lines_found text c.in-Some.at c.in-Some.ensures.0 c.in-Some.ensures.1
    ∙ ap (λ (u : List ℕ). u ∷ lines (drop (c.in-Some.at + 1) text)) (sym c.split_at.ensures.front)
    ∙ ap (λ (u : List ℕ). c.split_at.result.0.now ∷ lines u) (sym c.split_at-in-Some.ensures.back)

pub returns-in-None-2-clause-line : goal.returns-in-None-2-clause-line
returns-in-None-2-clause-line c =
    let text = c.args.text.now in
    lines_missing text c.in-None-2.ensures (some-from_test text (sym c.if-is_empty.ensures))
    ∙ ap (λ (u : List ℕ). text ∷ lines u) (sym c.split_at-in-None-2.ensures.back)
