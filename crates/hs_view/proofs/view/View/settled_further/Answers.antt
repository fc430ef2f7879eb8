use Rattle.std.proofs.Common.{◌≡◌, false, sym, ap, ◌∙◌, refl, subst}
use Rattle.std.specs.Prelude.{IfOk, IfSome}
use Rattle.hs_overlay.specs.Shown.{lacks}
use Rattle.hs_view.specs.Known.{Sure, Told, IsTold, IsNine, IsSettled, Tabled, ends_in, routes_in}
use Rattle.hs_view.proofs.Sounds.{if_more}
use Rattle.hs_view.proofs.Fetching.{fetches_after, fetches_less, fetches_on, fetches_still, fetches_tail}
use Rattle.hs_view.proofs.view.View.settled_further.Goals as goal

pub returns-in_err-overlay-clause-fetches : goal.returns-in_err-overlay-clause-fetches
returns-in_err-overlay-clause-fetches g c =
    fetches_less g.B.Base.seen c.args.self.now c.sure.new.self c.in_err-overlay.field-0.0 _ c.sure.ensures.same (c.in_err-overlay.ensures.halt _ refl) c.from_residual.ensures.0 c.from_residual.ensures.1

pub returns-in-Some-clause-settled : goal.returns-in-Some-clause-settled
returns-in-Some-clause-settled g c = Sure (subst (λ x. IfSome x (λ o. lacks o c.args.loc.now ≡ false)) c.in-Some.is c.in_ok-overlay.ensures.settled)

pub returns-in-Some-clause-fetches : goal.returns-in-Some-clause-fetches
returns-in-Some-clause-fetches g c = fetches_still g.B.Base.seen c.args.self.now c.sure.new.self c.in-Some.overlay c.sure.ensures.same

pub returns-in_err-learn_routes-in-None-clause-fetches : goal.returns-in_err-learn_routes-in-None-clause-fetches
returns-in_err-learn_routes-in-None-clause-fetches g c =
    fetches_after g.B.Base.seen c.args.self.now c.sure.new.self c.learn_routes.new.self _ c.sure.ensures.same
    (fetches_on g.B.Base.seen c.sure.new.self c.learn_routes.new.self c.in_err-learn_routes-in-None.field-0.0 _ c.in_err-learn_routes-in-None.ensures.fetches c.from_residual-in_err-learn_routes-in-None.ensures.0 c.from_residual-in_err-learn_routes-in-None.ensures.1)

pub tables-requires : goal.tables-requires
tables-requires g c = record { writes = c.in_ok-learn_routes-in-None.ensures.fetches.keeps.writes ∙ ap (λ v. (g.B.Base.seen.tells v.base).writes) c.sure.ensures.same ∙ c.requires.writes }

pub returns-in_ok-learn_routes-in-None-clause-tables : goal.returns-in_ok-learn_routes-in-None-clause-tables
returns-in_ok-learn_routes-in-None-clause-tables g c = subst (λ v. IfOk c.tables.result (λ o. Tabled g.B.Base.seen v o)) (sym c.tables.ensures.same) c.tables.ensures.tables

pub returns-in_ok-learn_routes-in-None-clause-settled : goal.returns-in_ok-learn_routes-in-None-clause-settled
returns-in_ok-learn_routes-in-None-clause-settled g c =
    let e : ends_in c.args.self.now.reads ≡ ends_in c.tables.new.self.reads = ap (λ v. ends_in v.reads) (sym c.sure.ensures.same) ∙ sym c.in_ok-learn_routes-in-None.ensures.ends ∙ ap (λ v. ends_in v.reads) (sym c.tables.ensures.same) in
    let r : routes_in c.learn_routes.new.self.reads ≡ routes_in c.tables.new.self.reads = ap (λ v. routes_in v.reads) (sym c.tables.ensures.same) in
    if_more c.tables.result (λ o. Tabled g.B.Base.seen c.learn_routes.new.self o) (λ o. IsSettled c.args.loc.now o c.tables.new.self.reads) (λ o t. Told (subst IsTold e c.requires.ends) (subst IsNine r c.in_ok-learn_routes-in-None.ensures.known)) c.tables.ensures.tables

pub returns-in_ok-learn_routes-in-None-clause-fetches : goal.returns-in_ok-learn_routes-in-None-clause-fetches
returns-in_ok-learn_routes-in-None-clause-fetches g c =
    fetches_tail g.B.Base.seen c.args.self.now c.learn_routes.new.self c.tables.new.self tt _ (fetches_after g.B.Base.seen c.args.self.now c.sure.new.self c.learn_routes.new.self _ c.sure.ensures.same c.in_ok-learn_routes-in-None.ensures.fetches) c.tables.ensures.same
    c.tables.ensures.halt
