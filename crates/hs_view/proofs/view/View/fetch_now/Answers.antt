use Rattle.std.proofs.Common.{[], sym, ap, ◌∙◌, append-nil, arith, refl}
use Rattle.hs_view.proofs.Keeping.{keeps_read, still_from}
use Rattle.hs_view.proofs.Sounds.{sound_now}
use Rattle.hs_view.proofs.view.View.fetch_now.Goals as goal

pub invariant_of-self : goal.invariant_of-self
invariant_of-self g c =
    let h = ap (λ v. (g.B.Base.seen.tells v.base).writes) c.self.view_is ∙ c.requires.writes in
    sound_now g.B.Base.seen _ _ _ _ c.self.invariant h (c.in_err-value.ensures.writes ∙ h) refl refl

pub invariant_of-self-2 : goal.invariant_of-self-2
invariant_of-self-2 g c =
    let h = ap (λ v. (g.B.Base.seen.tells v.base).writes) c.self.view_is ∙ c.requires.writes in
    sound_now g.B.Base.seen _ _ _ _ c.self.invariant h (c.in_ok-value.ensures.writes ∙ h) refl refl

pub returns-clause-keeps : goal.returns-clause-keeps
returns-clause-keeps g c =
    keeps_read g.B.Base.seen c.args.self.now _ _ [] (ap (λ v. v.reads) c.self.view_is ∙ sym (append-nil c.args.self.now.reads)) (ap (λ v. v.effects) c.self.view_is) (ap (λ v. v.trace) c.self.view_is)
    (c.in_ok-value.ensures.writes ∙ ap (λ v. (g.B.Base.seen.tells v.base).writes) c.self.view_is)
    (c.in_ok-value.ensures.runs ∙ ap (λ v. (g.B.Base.seen.tells v.base).runs) c.self.view_is)
    (c.in_ok-value.ensures.asked ∙ ap (λ v. (g.B.Base.seen.tells v.base).asked) c.self.view_is)
    (still_from g.B.Base.seen c.args.self.now _ _ (ap (λ v. v.base) c.self.view_is) c.in_ok-value.ensures.world c.in_ok-value.ensures.made)
    (λ n. refl)
    (λ w h. tt)
    (let e = ap (λ v. (g.B.Base.seen.tells v.base).faults) c.self.view_is in omega (arith, e, c.in_ok-value.ensures.later))

pub returns-clause-world : goal.returns-clause-world
returns-clause-world g c = still_from g.B.Base.seen c.args.self.now _ _ (ap (λ v. v.base) c.self.view_is) c.in_ok-value.ensures.world c.in_ok-value.ensures.made

pub returns-in_err-value-clause-world : goal.returns-in_err-value-clause-world
returns-in_err-value-clause-world g c = still_from g.B.Base.seen c.args.self.now _ _ (ap (λ v. v.base) c.self.view_is) c.in_err-value.ensures.world c.in_err-value.ensures.made
