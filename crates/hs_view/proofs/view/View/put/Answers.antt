use Rattle.std.proofs.Common.{sym, ap, ◌∙◌}
use Rattle.hs_view.proofs.Pushing.{no-own_pop}
use Rattle.hs_view.proofs.view.View.put.Goals as goal

pub put_now-requires-clause-valid : goal.put_now-requires-clause-valid
put_now-requires-clause-valid g c =
    c.requires.valid (no-own_pop c.args.effect (g.B.Base.seen.tells c.args.self.now.base).writes (sym (ap (λ v. (g.B.Base.seen.tells v.base).writes) c.self.view_is) ∙ sym c.writes.ensures ∙ c.if-writes.true))
