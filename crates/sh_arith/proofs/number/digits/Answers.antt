use Rattle.sh_arith.proofs.Digits.{none-at, some-at, end-at}
use Rattle.sh_arith.proofs.number.digits.Goals as goal

pub returns-in-None : goal.returns-in-None
returns-in-None c = none-at _ _ _ _ _ _ _ c.requires c.loop-b-test.true c.loop-b.invariant.same c.with_digit.ensures c.in-None.is

pub loop-b-preserved : goal.loop-b-preserved
loop-b-preserved c =
    let s = some-at _ _ _ _ _ _ _ _ c.loop-b-test.true c.loop-b.invariant.same c.with_digit.ensures c.in-Some.is in
    record { small = s.0; same = s.1 }

pub returns : goal.returns
returns c = end-at _ _ _ _ _ _ c.loop-b.invariant.small c.loop-b-test.false c.loop-b.invariant.same
