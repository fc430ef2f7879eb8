use Rattle.hs_view.proofs.Fetching.{fetched, fetches_ok, fetches_on}
use Rattle.hs_view.proofs.Tables.{told-ends}
use Rattle.hs_view.proofs.view.View.learn_ends.Goals as goal

pub returns-in_err-_ends-clause-fetches : goal.returns-in_err-_ends-clause-fetches
returns-in_err-_ends-clause-fetches g c =
    let e = c.in_err-_ends.ensures in
    fetches_on g.B.Base.seen c.args.self.now c.fetch_once.new.self c.in_err-_ends.field-0.0 _ (fetched g.B.Base.seen c.args.self.now c.fetch_once.new.self _ c.requires.writes e.effects e.keeps e.fault e.trace e.spent e.outside) c.from_residual.ensures.0
    c.from_residual.ensures.1

pub returns-clause-known : goal.returns-clause-known
returns-clause-known g c =
    let e = c.in_ok-_ends.ensures in
    told-ends c.fetch_once.new.self.reads c.in_ok-_ends._ends e.fresh e.read e.shape

pub returns-clause-fetches : goal.returns-clause-fetches
returns-clause-fetches g c =
    let e = c.in_ok-_ends.ensures in
    fetches_ok g.B.Base.seen c.args.self.now c.fetch_once.new.self c.in_ok-_ends._ends tt (fetched g.B.Base.seen c.args.self.now c.fetch_once.new.self _ c.requires.writes e.effects e.keeps e.fault e.trace e.spent e.outside)
