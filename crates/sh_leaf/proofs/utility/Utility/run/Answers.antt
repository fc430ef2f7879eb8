use Rattle.std.proofs.Common.{ap, sym}
use Rattle.hs_view.proofs.Acting.{acts_as}
use Rattle.util_print.specs.Echo.{echo}
use Rattle.util_test.specs.Constant.{false_, true_}
use Rattle.sh_leaf.specs.Utilities.{does}
use Rattle.sh_leaf.specs.declared.utility.Utility.{Utility}
use Rattle.sh_leaf.proofs.utility.Utility.run.Goals as goal

pub returns-in-Echo : goal.returns-in-Echo
returns-in-Echo g c =
    acts_as g.B.Base.seen (echo c.args.args.now) (does c.args.self c.args.args.now) c.args.view.now c.echo.new.view c.echo.result (λ u s. ap (λ (x : Utility). does x c.args.args.now u) (sym c.in-Echo.is)) c.echo.ensures

pub returns-in-False : goal.returns-in-False
returns-in-False g c =
    acts_as g.B.Base.seen (false_ c.args.args.now) (does c.args.self c.args.args.now) c.args.view.now c.false_.new._view c.false_.result (λ u s. ap (λ (x : Utility). does x c.args.args.now u) (sym c.in-False.is)) c.false_.ensures

pub returns-in-True : goal.returns-in-True
returns-in-True g c =
    acts_as g.B.Base.seen (true_ c.args.args.now) (does c.args.self c.args.args.now) c.args.view.now c.true_.new._view c.true_.result (λ u s. ap (λ (x : Utility). does x c.args.args.now u) (sym c.in-True.is)) c.true_.ensures
