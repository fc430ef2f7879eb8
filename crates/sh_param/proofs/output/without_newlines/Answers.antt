use Rattle.std.proofs.Common.{ℕ, [], ◌∷◌, ◌++◌, sym, ap, ◌∙◌}
use Rattle.std.proofs.lemmas.Bool.{ne_eqb}
use Rattle.sh_param.specs.Outputs.{without_newlines}
use Rattle.sh_param.proofs.Newlines.{no_newline, newline_more}
use Rattle.sh_param.proofs.output.without_newlines.Goals as goal

pub returns-then-last-ne10 : goal.returns-then-last-ne10
returns-then-last-ne10 c =
    let front = c.in-Some.front.now in
    let last = c.in-Some.last.now in
    let is = c.in-Some.ensures.cases.0 in
    is ∙ sym (no_newline front last (ne_eqb last 10 c.if-last-ne10.true)) ∙ sym (ap without_newlines is) ∙ c.newlines.invariant

pub newlines-preserved : goal.newlines-preserved
newlines-preserved c =
    let front = c.in-Some.front.now in
    let is = c.in-Some.ensures.cases.0 in
    sym (newline_more front) ∙ ap (λ (b : ℕ). without_newlines (front ++ b ∷ [])) (sym c.if-last-ne10.false) ∙ sym (ap without_newlines is) ∙ c.newlines.invariant
