use Rattle.std.proofs.Common.{sym, ◌∙◌, ap}
use Rattle.util_lines.specs.Decimals.{Decimal, decimal, decimal_of, decimal_order, number}
use Rattle.util_lines.proofs.ordering.compare_numbers.Goals as goal

pub returns : goal.returns
returns c =
    let one = c.read_digits-first.result in
    let two = c.read_digits-second.result in
    c.compare_digits.ensures
    ∙ ap (λ (d : Decimal). decimal_order d (decimal two.below (number two.whole.now) two.fraction.now)) (sym c.read_digits-first.ensures.number)
    ∙ ap (λ (d : Decimal). decimal_order (decimal_of c.args.a.now) d) (sym c.read_digits-second.ensures.number)
