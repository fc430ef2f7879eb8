use Rattle.std.proofs.Common.{◌≡◌, ◌-◌, ◌^◌, min, take}
use Rattle.std.specs.Str.Parse.{digits_value}
use Rattle.util_print.proofs.format.count.Given as goal

abbrev pub invariant-digits : goal.invariant-digits
invariant-digits l = l.count ≡ min (digits_value l.radix (take l.digit-index l.digits)) (2 ^ 64 - 1)
