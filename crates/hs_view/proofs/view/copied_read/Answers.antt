use Rattle.hs_world.proofs.Copies.{loc_copied, value_copied}
use Rattle.hs_view.proofs.view.copied_read.Goals as goal

pub returns : goal.returns
returns c = λ i. (loc_copied _ _ c.in_ok-loc.ensures.cases i, value_copied _ _ c.in_ok-value.ensures.cases i)
