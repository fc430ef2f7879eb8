use Rattle.sh_arith.proofs.Wraps.{negated-is}
use Rattle.sh_arith.proofs.calc.negated.Goals as goal

pub returns : goal.returns
returns c = negated-is _ _ c.ranges.a (record { sfits = c.wrapping_neg.type_inv }) c.wrapping_neg.ensures
