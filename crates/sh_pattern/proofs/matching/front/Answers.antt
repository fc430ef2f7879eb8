use Rattle.std.proofs.Common.{sym, ◌∙◌, arith}
use Rattle.sh_pattern.proofs.Stars.{step-here, step-later, stop-settled}
use Rattle.sh_pattern.proofs.matching.front.Goals as goal

pub returns-then-is_star-clause-settled : goal.returns-then-is_star-clause-settled
returns-then-is_star-clause-settled c =
    stop-settled c.args.items.now _ _ c.args.bytes.now _ _ c.in-Some.ensures.cases.0 (sym c.is_star.ensures ∙ c.if-is_star.true) c.items.invariant.here c.items.invariant.later

pub items-preserved : goal.items-preserved
items-preserved c =
    let item = c.in-Some.ensures.cases in
    let byte = c.in-Some-split_first.ensures.cases in
    let single = sym c.is_star.ensures ∙ c.if-is_star.false in
    let taken = sym c.takes.ensures ∙ c.if-takes.true in
    record {
      here = c.items.invariant.here ∙ step-here _ _ _ _ _ _ item.0 byte.0 single taken;
      later = λ h. step-later _ _ _ _ _ _ item.0 byte.0 single taken (c.items.invariant.later h);
      within = omega arith;
    }
