use Rattle.std.proofs.Common.{◌∙◌}
use Rattle.hs_view.proofs.Sounds.{params_are}
use Rattle.hs_view.proofs.view.View.params.Goals as goal

pub returns-clause-answer : goal.returns-clause-answer
returns-clause-answer g c = λ u s. params_are u _ _ (c.in_ok-zero.ensures.answer u s ∙ c.in-Params.is)
