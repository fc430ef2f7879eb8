use Rattle.std.proofs.Common.{◌∙◌}
use Rattle.hs_view.proofs.Sounds.{opts_is}
use Rattle.hs_view.proofs.view.View.opts.Goals as goal

pub returns-clause-answer : goal.returns-clause-answer
returns-clause-answer g c = λ u s. opts_is u _ (c.in_ok-opts.ensures.answer u s ∙ c.in-Opts.is)
