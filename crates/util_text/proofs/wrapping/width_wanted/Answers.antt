use Rattle.std.proofs.Common.{◌≡◌, ℕ, refl, sym, ap, ◌∙◌, subst}
use Rattle.std.specs.Prelude.{Option, Some, IfOk, IfErr}
use Rattle.util_text.specs.Count.{StandsFor}
use Rattle.util_text.specs.Numbers.{RefusesNumber}
use Rattle.util_text.specs.Wrapping.{width_wanted}
use Rattle.util_text.proofs.wrapping.width_wanted.Goals as goal

pub returns-in-Some-clause-ok : goal.returns-in-Some-clause-ok
returns-in-Some-clause-ok c =
    subst (λ (o : Option ℕ). IfOk c.width_in.result (λ width. (n : ℕ) × (o ≡ Some n) × StandsFor width.bytes n)) (ap width_wanted (sym c.in-Some.is ∙ c.in_ok-word.ensures)) c.width_in.ensures.ok

pub returns-in-Some-clause-fault : goal.returns-in-Some-clause-fault
returns-in-Some-clause-fault c =
    subst (λ (o : Option ℕ). IfErr c.width_in.result (λ e. RefusesNumber e o)) (ap width_wanted (sym c.in-Some.is ∙ c.in_ok-word.ensures)) c.width_in.ensures.fault

pub returns-in-None-clause-ok : goal.returns-in-None-clause-ok
returns-in-None-clause-ok c = (80, ap width_wanted (sym c.in_ok-word.ensures ∙ c.in-None.is), refl)
