use Rattle.std.proofs.Common.{List, ℕ, sym, ◌∙◌, ap}
use Rattle.util_lines.specs.Decimals.{digits}
use Rattle.util_lines.proofs.Told.{read_told}
use Rattle.util_lines.proofs.Whole.{digits_again}
use Rattle.util_lines.proofs.decimal.read_digits.Goals as goal

pub is_zero-requires : goal.is_zero-requires
is_zero-requires c =
    ap (λ (u : List ℕ). digits u) c.split_digits.ensures.digits ∙ digits_again c.split_sign-minus.result.1.now ∙ sym c.split_digits.ensures.digits

pub returns-clause-number : goal.returns-clause-number
returns-clause-number c =
    read_told c.args.line.now c.trim_blanks.result.now c.split_sign-minus.result.1.now c.split_digits.result.0.now c.split_digits.result.1.now c.digits_behind_point.result.now c.trim_zeros-fraction.result.now
    c.split_sign-minus.result.0 c.is_zero.result c.trim_blanks.ensures c.split_sign-minus.ensures.sign c.split_sign-minus.ensures.behind c.split_digits.ensures.digits c.split_digits.ensures.behind c.digits_behind_point.ensures
    c.trim_zeros-fraction.ensures c.is_zero.ensures

pub returns-clause-digits : goal.returns-clause-digits
returns-clause-digits c =
    ap (λ (u : List ℕ). digits u) c.split_digits.ensures.digits ∙ digits_again c.split_sign-minus.result.1.now ∙ sym c.split_digits.ensures.digits
