use Rattle.std.proofs.Common.{◌≡◌, true, sym, ap, ◌∙◌, subst}
use Rattle.std.specs.Prelude.{Ok}
use Rattle.hs_overlay.specs.Shown.{over_value}
use Rattle.hs_view.specs.Seen.{is_of}
use Rattle.hs_view.specs.View.{Stands}
use Rattle.hs_view.proofs.Fetching.{fetched, fetches_before, fetches_ok, fetches_on, fetches_short}
use Rattle.hs_view.proofs.Tables.{over-shape, tables-stay}
use Rattle.hs_view.proofs.view.View.get_under.Goals as goal

pub returns-in_err-base-clause-fetches : goal.returns-in_err-base-clause-fetches
returns-in_err-base-clause-fetches g c =
    let e = c.in_err-base.ensures in
    fetches_on g.B.Base.seen c.args.self.now c.fetch_once.new.self c.in_err-base.field-0.0 _ (fetched g.B.Base.seen c.args.self.now c.fetch_once.new.self _ c.requires.writes e.effects e.keeps e.fault e.trace e.spent e.outside) c.from_residual.ensures.0
    c.from_residual.ensures.1

pub returns-in_err-value-clause-fetches : goal.returns-in_err-value-clause-fetches
returns-in_err-value-clause-fetches g c =
    let e = c.in_ok-base.ensures in
    fetches_short g.B.Base.seen c.args.self.now c.fetch_once.new.self c.in_ok-base.base _ (fetched g.B.Base.seen c.args.self.now c.fetch_once.new.self _ c.requires.writes e.effects e.keeps e.fault e.trace e.spent e.outside) c.from_residual-in_err-value.ensures.0
    c.from_residual-in_err-value.ensures.1

pub keep_unless-requires : goal.keep_unless-requires
keep_unless-requires g c = λ h.
    let e = c.in_ok-base.ensures in
    tables-stay g.B.Base.seen c.args.self.now c.fetch_once.new.self c.args.loc.now c.args.overlay e.keeps.writes e.effects e.known (sym c.is_of_tables.ensures ∙ h) c.requires.tables

pub returns-clause-value : goal.returns-clause-value
returns-clause-value g c = λ b s.
    ap (over_value c.args.overlay c.args.loc.now) (c.in_ok-base.ensures.answer b (subst (λ v. Stands (g.B.Base.seen.tells c.args.self.now.base) v.reads b) c.keep_unless.ensures s)) ∙ sym c.in_ok-value.ensures

pub returns-clause-shape : goal.returns-clause-shape
returns-clause-shape g c = subst (λ v. is_of c.args.loc.now v ≡ true) (sym c.in_ok-value.ensures) (over-shape c.args.overlay c.args.loc.now c.in_ok-base.base c.in_ok-base.ensures.shape)

pub returns-clause-fetches : goal.returns-clause-fetches
returns-clause-fetches g c =
    let e = c.in_ok-base.ensures in
    fetches_before g.B.Base.seen c.args.self.now c.fetch_once.new.self c.keep_unless.new.self (Ok c.in_ok-value.value) c.keep_unless.ensures
    (fetches_ok g.B.Base.seen c.args.self.now c.fetch_once.new.self c.in_ok-base.base c.in_ok-value.value (fetched g.B.Base.seen c.args.self.now c.fetch_once.new.self _ c.requires.writes e.effects e.keeps e.fault e.trace e.spent e.outside))
