-- Arithmetic expansion (POSIX.1-2017, XCU 2.6.4), with its messages.
use Rattle.std.specs.Prelude.{ℕ, List, Result, Ok, Err, codes}
use Rattle.std.specs.Fmt.{signed_decimal}
use Rattle.hs_view.specs.Acts.{answering}
use Rattle.sh_param.specs.Messages.{bare_message}
use Rattle.sh_param.specs.Parts.{Sums}
use Rattle.sh_sum.specs.Sums.{sum_done}
use Rattle.sh_sum.specs.declared.sum.Sum.{Sum}
use Rattle.sh_sum.specs.declared.sum.Sum.TheVariants as answer

abbrev pub shown : Sum → Result (List ℕ) (List ℕ)
shown (answer.Number n) = Ok (signed_decimal n)
shown answer.Bad = Err (bare_message (codes "bad arithmetic"))
shown answer.DivisionByZero = Err (bare_message (codes "division by zero"))
shown answer.BadShift = Err (bare_message (codes "bad shift"))

abbrev pub sums : Sums
sums text w = answering shown (sum_done text w)
