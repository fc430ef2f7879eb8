use Rattle.std.proofs.Common.{◌≡◌, refl, sym, ap, ◌∙◌, subst}
use Rattle.std.specs.Prelude.{Option, Some, IfOk, IfErr}
use Rattle.util_text.specs.Numbers.{RefusesNumber}
use Rattle.util_text.specs.Tail.{AreEnds}
use Rattle.util_text.specs.Tailing.{ends_wanted}
use Rattle.util_text.specs.declared.ends.Ends.{Ends}
use Rattle.util_text.specs.declared.ends.Ends.TheVariants.{Last}
use Rattle.util_text.proofs.tailing.ends_wanted.Goals as goal

pub returns-in-Some-clause-ok : goal.returns-in-Some-clause-ok
returns-in-Some-clause-ok c =
    subst (λ (o : Option Ends). IfOk c.ends_in.result (λ ends. (exact : Ends) × (o ≡ Some exact) × AreEnds ends exact)) (ap ends_wanted (sym c.in-Some.is ∙ c.in_ok-word.ensures)) c.ends_in.ensures.ok

pub returns-in-Some-clause-fault : goal.returns-in-Some-clause-fault
returns-in-Some-clause-fault c =
    subst (λ (o : Option Ends). IfErr c.ends_in.result (λ e. RefusesNumber e o)) (ap ends_wanted (sym c.in-Some.is ∙ c.in_ok-word.ensures)) c.ends_in.ensures.fault

pub returns-in-None-clause-ok : goal.returns-in-None-clause-ok
returns-in-None-clause-ok c = (Last 10, ap ends_wanted (sym c.in_ok-word.ensures ∙ c.in-None.is), refl)
