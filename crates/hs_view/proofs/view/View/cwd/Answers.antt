use Rattle.std.proofs.Common.{◌∙◌}
use Rattle.hs_view.proofs.Sounds.{cwd_is}
use Rattle.hs_view.proofs.view.View.cwd.Goals as goal

pub returns-clause-answer : goal.returns-clause-answer
returns-clause-answer g c = λ u s. cwd_is u _ (c.in_ok-path.ensures.answer u s ∙ c.in-Cwd.is)
