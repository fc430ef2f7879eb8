use Rattle.std.proofs.Common.{get_or, sym, ◌∙◌}
use Rattle.std.proofs.lemmas.List.{drop_all, drop_more}
use Rattle.util_print.proofs.Leading.{digit_end, digit_more, digit_none}
use Rattle.util_print.proofs.numeral.leading.Goals as goal

pub returns-in-None : goal.returns-in-None
returns-in-None c =
    let us = c.args.digits.now in
    let i = c.digits.byte-index in
    digit_none c.args.radix c.args.most c.digits.number (get_or us i 0) _ _ _ (drop_more us i 0 c.digits-test.true) (sym c.with_digit.ensures ∙ c.in-None.is) c.digits.invariant

pub digits-preserved : goal.digits-preserved
digits-preserved c =
    let us = c.args.digits.now in
    let i = c.digits.byte-index in
    digit_more c.args.radix c.args.most c.digits.number (get_or us i 0) c.in-Some.next _ _ _ (drop_more us i 0 c.digits-test.true) (sym c.with_digit.ensures ∙ c.in-Some.is) c.digits.invariant

pub returns : goal.returns
returns c = digit_end c.args.radix c.args.most c.digits.number _ _ (drop_all c.digits.byte-index c.args.digits.now c.digits-test.false) c.digits.invariant
