use Rattle.std.proofs.Common.{arith}
use Rattle.util_lines.specs.Decimals.{number}
use Rattle.util_lines.proofs.Told.{some_told, zero_told}
use Rattle.util_lines.proofs.decimal.is_zero.Goals as goal

pub returns-in-empty : goal.returns-in-empty
returns-in-empty c = zero_told c.has_value.result c.args.whole.now c.args.fraction.now c.requires c.has_value.ensures (omega arith)

pub returns-in_default : goal.returns-in_default
returns-in_default c = some_told (number c.args.whole.now) c.args.fraction.now (omega arith)
