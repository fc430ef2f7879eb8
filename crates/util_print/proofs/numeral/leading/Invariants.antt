use Rattle.std.proofs.Common.{◌≡◌, drop}
use Rattle.util_print.specs.Numerals.{leading}
use Rattle.util_print.proofs.numeral.leading.Given as goal

abbrev pub invariant-digits : goal.invariant-digits
invariant-digits l = leading l.radix l.most l.number (drop l.byte-index l.digits) ≡ leading l.radix l.most 0 l.digits
