use Rattle.std.proofs.Common.{subst}
use Rattle.hs_view.specs.Sound.{IsSound}
use Rattle.hs_view.proofs.Sounds.{sound_valid}
use Rattle.hs_view.proofs.view.View.into_trace.Goals as goal

pub returns-clause-valid : goal.returns-clause-valid
returns-clause-valid g c = λ h w t p.
    sound_valid g.B.Base.seen c.args.self c.self.inside.size c.self.inside.overlay (subst (λ v. IsSound g.B.Base.seen v c.self.inside.size c.self.inside.overlay) c.self.view_is c.self.invariant) h w t p
