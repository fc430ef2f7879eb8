use Rattle.std.proofs.Common.{sym, ap, ◌∙◌, subst}
use Rattle.std.specs.Prelude.{IfOk}
use Rattle.hs_view.specs.Known.{Tabled}
use Rattle.hs_view.proofs.Tables.{sound-free, tabled-by}
use Rattle.hs_view.proofs.view.View.tables.Goals as goal

pub invariant_of-self : goal.invariant_of-self
invariant_of-self g c = sound-free g.B.Base.seen _ _ _ _ c.self.invariant c.take.ensures.after

pub invariant_of-self-in-None : goal.invariant_of-self-in-None
invariant_of-self-in-None g c = sound-free g.B.Base.seen _ _ _ _ c.self.invariant c.take.ensures.after

pub returns-in-Some-clause-tables : goal.returns-in-Some-clause-tables
returns-in-Some-clause-tables g c =
    subst (λ v. Tabled g.B.Base.seen v c.in-Some.overlay) c.self.view_is
    (tabled-by g.B.Base.seen _ _ _ c.in-Some.overlay c.self.invariant (ap (λ v. (g.B.Base.seen.tells v.base).writes) c.self.view_is ∙ c.requires.writes) (c.self.invariant.tabled c.in-Some.overlay (sym c.in-Some.ensures.value)))

pub returns-in-None-clause-tables : goal.returns-in-None-clause-tables
returns-in-None-clause-tables g c = subst (λ v. IfOk c.build.result (λ o. Tabled g.B.Base.seen v o)) c.self.view_is c.build.ensures.tables
