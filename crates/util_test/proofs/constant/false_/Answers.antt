use Rattle.std.proofs.Common.{refl}
use Rattle.hs_view.proofs.Acting.{acts_answer}
use Rattle.util_test.specs.Constant.{false_}
use Rattle.util_test.proofs.constant.false_.Goals as goal

pub returns : goal.returns
returns g c = acts_answer g.B.Base.seen (false_ c.args._args.now) c.args._view.now 1 (λ u s. refl)
