use Rattle.std.proofs.Common.{◌∙◌}
use Rattle.hs_view.proofs.Sounds.{status_is}
use Rattle.hs_view.proofs.view.View.status.Goals as goal

pub returns-clause-answer : goal.returns-clause-answer
returns-clause-answer g c = λ u s. status_is u _ (c.in_ok-status.ensures.answer u s ∙ c.in-Status.is)
