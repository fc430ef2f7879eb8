use Rattle.std.proofs.Common.{◌≡◌, ℕ, refl, sym, ap, ◌∙◌, subst}
use Rattle.std.specs.Prelude.{Option, Some, IfOk, IfErr}
use Rattle.util_text.specs.Count.{StandsFor}
use Rattle.util_text.specs.Head.{lines_wanted}
use Rattle.util_text.specs.Numbers.{RefusesNumber}
use Rattle.util_text.proofs.heading.lines_wanted.Goals as goal

pub returns-in-Some-clause-ok : goal.returns-in-Some-clause-ok
returns-in-Some-clause-ok c =
    subst (λ (o : Option ℕ). IfOk c.count_in.result (λ count. (n : ℕ) × (o ≡ Some n) × StandsFor count n)) (ap lines_wanted (sym c.in-Some.is ∙ c.in_ok-word.ensures)) c.count_in.ensures.ok

pub returns-in-Some-clause-fault : goal.returns-in-Some-clause-fault
returns-in-Some-clause-fault c =
    subst (λ (o : Option ℕ). IfErr c.count_in.result (λ e. RefusesNumber e o)) (ap lines_wanted (sym c.in-Some.is ∙ c.in_ok-word.ensures)) c.count_in.ensures.fault

pub returns-in-None-clause-ok : goal.returns-in-None-clause-ok
returns-in-None-clause-ok c = (10, ap lines_wanted (sym c.in_ok-word.ensures ∙ c.in-None.is), refl)
