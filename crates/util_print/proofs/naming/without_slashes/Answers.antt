use Rattle.std.proofs.Common.{ℕ, [], ◌∷◌, ◌++◌, sym, ap, ◌∙◌}
use Rattle.std.proofs.lemmas.Bool.{ne_eqb}
use Rattle.util_print.specs.Naming.{without_slashes}
use Rattle.util_print.proofs.Named.{no_slash, slash_more}
use Rattle.util_print.proofs.naming.without_slashes.Goals as goal

pub returns-then-last-ne47 : goal.returns-then-last-ne47
returns-then-last-ne47 c =
    let front = c.in-Some.front.now in
    let last = c.in-Some.last.now in
    let is = c.in-Some.ensures.cases.0 in
    is ∙ sym (no_slash front last (ne_eqb last 47 c.if-last-ne47.true)) ∙ sym (ap without_slashes is) ∙ c.slashes.invariant

pub slashes-preserved : goal.slashes-preserved
slashes-preserved c =
    let front = c.in-Some.front.now in
    let is = c.in-Some.ensures.cases.0 in
    sym (slash_more front) ∙ ap (λ (b : ℕ). without_slashes (front ++ b ∷ [])) (sym c.if-last-ne47.false) ∙ sym (ap without_slashes is) ∙ c.slashes.invariant
