-- What the code of an operator says of the operator.
use Rattle.std.specs.Prelude.{◌≡◌, ℤ, Result, Ok, Err}
use Rattle.sh_arith.specs.declared.calc.NoNumber.{NoNumber}
use Rattle.sh_arith.specs.declared.calc.NoNumber.TheVariants.{ByZero, BadShift}
use Rattle.sh_arith.specs.Value.{Calculated, gives, fails, by_zero, bad_shift}

abbrev pub Gives : Result ℤ NoNumber → Calculated → Type 0
Gives (Ok v) c = c ≡ gives v
Gives (Err ByZero) c = c ≡ fails by_zero
Gives (Err BadShift) c = c ≡ fails bad_shift
