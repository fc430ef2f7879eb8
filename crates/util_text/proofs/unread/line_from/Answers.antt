use Rattle.std.proofs.Common.{◌≡◌, ℕ, ◌+◌, List, drop, length, sym, ◌∙◌, ap, arith}
use Rattle.std.proofs.lemmas.List.{drop-drop, drop_all}
use Rattle.util_text.specs.Lines.{lines}
use Rattle.util_text.specs.Paste.{next}
use Rattle.util_text.proofs.Pasted.{last_left, last_next, only_line}
use Rattle.util_text.proofs.Pieces.{lines_found}
use Rattle.util_text.proofs.unread.line_from.Goals as goal

pub returns-in-Some-clause-line : goal.returns-in-Some-clause-line
returns-in-Some-clause-line c =
    let rest = c.split_at.result.1.now in
    c.split_at-in-Some.ensures.front
    ∙ ap next (sym (lines_found rest c.in-Some.at c.in-Some.ensures.0 c.in-Some.ensures.1))
    ∙ ap (λ (u : List ℕ). next (lines u)) c.split_at.ensures.back

pub returns-in-Some-clause-left : goal.returns-in-Some-clause-left
returns-in-Some-clause-left c =
    let rest = c.split_at.result.1.now in
    let text = c.args.text.now in
    let at = c.in-Some.at in
    let place : c.args.start + at + 1 ≡ c.args.start + (at + 1) = omega arith in
    ap (λ (n : ℕ). lines (drop n text)) place
    ∙ ap lines (sym (drop-drop (at + 1) c.args.start text))
    ∙ ap (λ (u : List ℕ). lines (drop (at + 1) u)) (sym c.split_at.ensures.back)
    ∙ ap (λ (ls : List (List ℕ)). drop 1 ls) (sym (lines_found rest at c.in-Some.ensures.0 c.in-Some.ensures.1))
    ∙ ap (λ (u : List ℕ). drop 1 (lines u)) c.split_at.ensures.back

pub returns-in-None-clause-line : goal.returns-in-None-clause-line
returns-in-None-clause-line c =
    let rest = c.split_at.result.1.now in
    last_next rest (only_line rest c.in-None.ensures) ∙ ap (λ (u : List ℕ). next (lines u)) c.split_at.ensures.back

pub returns-in-None-clause-left : goal.returns-in-None-clause-left
returns-in-None-clause-left c =
    let rest = c.split_at.result.1.now in
    let text = c.args.text.now in
    ap lines (drop_all (length text) text (omega arith))
    ∙ last_left rest (only_line rest c.in-None.ensures)
    ∙ ap (λ (u : List ℕ). drop 1 (lines u)) c.split_at.ensures.back
