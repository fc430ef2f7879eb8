use Rattle.sh_arith.proofs.Wraps.{quotient-is}
use Rattle.sh_arith.proofs.calc.quotient.Goals as goal

pub returns : goal.returns
returns c = quotient-is _ _ _ _ c.ranges.a c.ranges.b (record { sfits = c.wrapping_div.type_inv }) c.is_zero.ensures c.if-is_zero.false c.wrapping_div.ensures
