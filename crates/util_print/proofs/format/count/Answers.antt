use Rattle.std.proofs.Common.{ℕ, List, ◌+◌, ◌-◌, ◌*◌, ◌^◌, min, ap, ◌∙◌}
use Rattle.std.specs.Str.Parse.{digits_value}
use Rattle.std.proofs.lemmas.List.{take_all}
use Rattle.util_print.proofs.Counted.{counted_more}
use Rattle.util_print.proofs.format.count.Goals as goal

pub digits-preserved : goal.digits-preserved
digits-preserved c =
    c.saturating_add-count.ensures
    ∙ ap (λ (n : ℕ). min (n + c.from.result) (2 ^ 64 - 1)) c.saturating_mul.ensures
    ∙ ap (λ (n : ℕ). min (min (c.digits.count * c.args.radix) (2 ^ 64 - 1) + n) (2 ^ 64 - 1)) (c.from.ensures ∙ c.worth.ensures)
    ∙ counted_more c.args.radix c.args.digits.now c.digits.digit-index c.digits.count (2 ^ 64 - 1) c.requires c.digits-test.true c.digits.invariant

pub returns : goal.returns
returns c = c.digits.invariant ∙ ap (λ (u : List ℕ). min (digits_value c.args.radix u) (2 ^ 64 - 1)) (take_all c.digits.digit-index c.args.digits.now c.digits-test.false)
