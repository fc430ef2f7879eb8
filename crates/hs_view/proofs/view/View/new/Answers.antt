use Rattle.hs_view.proofs.Sounds.{sound_new}
use Rattle.hs_view.proofs.view.View.new.Goals as goal

pub invariant_of-result : goal.invariant_of-result
invariant_of-result g c = sound_new g.B.Base.seen _ c.new.ensures c.new-2.ensures
