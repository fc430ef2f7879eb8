use Rattle.std.proofs.Common.{ℕ, ◌+◌, ◌-◌, ◌<◌, List, ◌++◌, ◌∙◌, ap, arith}
use Rattle.std.specs.List.{range_with_len}
use Rattle.util_lines.proofs.ByteSets.{ranging}
use Rattle.util_lines.proofs.byte_set.push_range.Goals as goal

pub loop-at-preserved : goal.loop-at-preserved
loop-at-preserved c =
    let end = c.args.high + 1 in
    let at = c.loop-at.at in
    let inside : c.loop-at.at < c.args.high + 1 = omega (arith, c.loop-at-test.true, c.from-at-end.ensures) in
    ap (λ (u : List ℕ). u ++ range_with_len (at + 1) (end - (at + 1))) c.in_ok-push.ensures.items
    ∙ ranging at end c.loop-at.out.items (c.args.out.now.items ++ range_with_len c.args.low (end - c.args.low)) inside c.loop-at.invariant
