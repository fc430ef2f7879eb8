use Rattle.std.proofs.Common.{[], sym, ap, ◌∙◌, append-nil, arith, refl}
use Rattle.hs_view.specs.View.{quiet}
use Rattle.hs_view.proofs.Keeping.{keeps_read, still_from}
use Rattle.hs_view.proofs.Sounds.{sound_asked}
use Rattle.hs_view.proofs.view.View.ask.Goals as goal

pub invariant_of-self : goal.invariant_of-self
invariant_of-self g c = sound_asked g.B.Base.seen _ _ c.self.inside.size c.self.inside.overlay c.self.invariant c.ask.ensures.writes c.ask.ensures.world refl refl

pub returns-clause-keeps : goal.returns-clause-keeps
returns-clause-keeps g c =
    keeps_read (quiet g.B.Base.seen) c.args.self.now _ _ [] (ap (λ v. v.reads) c.self.view_is ∙ sym (append-nil c.args.self.now.reads)) (ap (λ v. v.effects) c.self.view_is) (ap (λ v. v.trace) c.self.view_is)
    (c.ask.ensures.writes ∙ ap (λ v. (g.B.Base.seen.tells v.base).writes) c.self.view_is)
    (c.ask.ensures.runs ∙ ap (λ v. (g.B.Base.seen.tells v.base).runs) c.self.view_is)
    refl
    (still_from (quiet g.B.Base.seen) c.args.self.now _ _ (ap (λ v. v.base) c.self.view_is) c.ask.ensures.world c.ask.ensures.made)
    (λ n. refl)
    (λ w h. tt)
    (let e = ap (λ v. (g.B.Base.seen.tells v.base).faults) c.self.view_is in omega (arith, e, c.ask.ensures.later))
