use Rattle.std.proofs.Common.{◌∙◌}
use Rattle.hs_view.proofs.Sounds.{routes_are}
use Rattle.hs_view.proofs.view.View.routes.Goals as goal

pub returns-clause-answer : goal.returns-clause-answer
returns-clause-answer g c = λ u s. routes_are u _ (c.in_ok-routes.ensures.answer u s ∙ c.in-Routes.is)
