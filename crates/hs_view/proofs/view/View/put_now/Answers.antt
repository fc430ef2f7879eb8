use Rattle.std.proofs.Common.{sym, ap, ◌∙◌, refl}
use Rattle.hs_view.proofs.Heads.{told_shown}
use Rattle.hs_view.proofs.Putting.{puts-from, puts-now}
use Rattle.hs_view.proofs.view.View.put_now.Goals as goal

pub push_to-requires-clause-valid : goal.push_to-requires-clause-valid
push_to-requires-clause-valid g c = λ u h.
    c.requires.valid u (told_shown g.B.Base.seen c.args.self.now c.args.self.now u c.requires.writes (sym (ap (λ v. (g.B.Base.seen.tells v.base).world) c.self.view_is) ∙ h))

pub returns : goal.returns
returns g c =
    puts-from g.B.Base.seen _ _ _ c.args.effect c.push_to.result c.self.view_is
    (puts-now g.B.Base.seen _ _ c.args.effect c.push_to.result (ap (λ v. (g.B.Base.seen.tells v.base).writes) c.self.view_is ∙ c.requires.writes) refl refl c.push_to.ensures.ok c.push_to.ensures.err c.push_to.ensures.written)
