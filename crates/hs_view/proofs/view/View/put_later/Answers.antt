use Rattle.std.proofs.Common.{◌≡◌, true, sym, subst}
use Rattle.hs_world.specs.World.{WorldData, is_valid}
use Rattle.hs_view.specs.View.{Showed}
use Rattle.hs_view.proofs.Pushing.{valid-pushed}
use Rattle.hs_view.proofs.view.View.put_later.Goals as goal

pub put_over-requires-clause-valid : goal.put_over-requires-clause-valid
put_over-requires-clause-valid g c =
    subst (λ v. (u : WorldData) → Showed g.B.Base.seen v v u → is_valid c.args.effect u ≡ true) (sym c.in-Ok.ensures.same)
    (valid-pushed g.B.Base.seen c.args.self.now c.in-Ok.overlay c.args.effect c.requires.writes c.in-Ok.ensures.tables c.requires.pushed c.requires.valid)
