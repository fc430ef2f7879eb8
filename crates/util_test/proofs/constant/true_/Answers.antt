use Rattle.std.proofs.Common.{refl}
use Rattle.hs_view.proofs.Acting.{acts_answer}
use Rattle.util_test.specs.Constant.{true_}
use Rattle.util_test.proofs.constant.true_.Goals as goal

pub returns : goal.returns
returns g c = acts_answer g.B.Base.seen (true_ c.args._args.now) c.args._view.now 0 (λ u s. refl)
