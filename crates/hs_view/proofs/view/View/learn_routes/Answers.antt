use Rattle.std.proofs.Common.{subst}
use Rattle.hs_world.specs.Reads.{IsRead}
use Rattle.hs_world.specs.declared.loc.Loc.TheVariants as loc
use Rattle.hs_view.proofs.Fetching.{fetched, fetches_ok, fetches_on}
use Rattle.hs_view.proofs.Tables.{ends-stay, told-routes}
use Rattle.hs_view.proofs.view.View.learn_routes.Goals as goal

pub returns-in_err-routes-clause-fetches : goal.returns-in_err-routes-clause-fetches
returns-in_err-routes-clause-fetches g c =
    let e = c.in_err-routes.ensures in
    fetches_on g.B.Base.seen c.args.self.now c.fetch_once.new.self c.in_err-routes.field-0.0 _ (fetched g.B.Base.seen c.args.self.now c.fetch_once.new.self _ c.requires.writes e.effects e.keeps e.fault e.trace e.spent e.outside) c.from_residual.ensures.0
    c.from_residual.ensures.1

pub returns-clause-known : goal.returns-clause-known
returns-clause-known g c =
    let e = c.in_ok-routes.ensures in
    told-routes c.fetch_once.new.self.reads c.in-Routes.routes e.fresh (subst (λ v. IsRead c.fetch_once.new.self.reads loc.Routes v) c.in-Routes.is e.read) c.len-nine.ensures.nine

pub returns-clause-ends : goal.returns-clause-ends
returns-clause-ends g c = ends-stay c.args.self.now.reads c.fetch_once.new.self.reads c.in_ok-routes.ensures.known

pub returns-clause-fetches : goal.returns-clause-fetches
returns-clause-fetches g c =
    let e = c.in_ok-routes.ensures in
    fetches_ok g.B.Base.seen c.args.self.now c.fetch_once.new.self c.in_ok-routes.field-0 tt (fetched g.B.Base.seen c.args.self.now c.fetch_once.new.self _ c.requires.writes e.effects e.keeps e.fault e.trace e.spent e.outside)
