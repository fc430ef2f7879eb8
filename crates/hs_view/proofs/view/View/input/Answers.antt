use Rattle.std.proofs.Common.{◌∙◌}
use Rattle.hs_view.proofs.Sounds.{input_is}
use Rattle.hs_view.proofs.view.View.input.Goals as goal

pub returns-clause-answer : goal.returns-clause-answer
returns-clause-answer g c = λ u s. input_is u _ (c.in_ok-text.ensures.answer u s ∙ c.in-Input.is)
