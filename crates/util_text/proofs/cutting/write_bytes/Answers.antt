use Rattle.std.proofs.Common.{arith}
use Rattle.util_text.proofs.Picked.{pieces-done, pieces-behind_first, pieces-none}
use Rattle.util_text.proofs.cutting.write_bytes.Goals as goal

pub returns-then-span-line-clause-ok : goal.returns-then-span-line-clause-ok
returns-then-span-line-clause-ok c = λ test agrees.
    let apart = c.spans.invariant.apart in
    pieces-done test c.args.line.now c.args.spans.now c.spans.left.now c.spans.out.items c.args.out.now.items c.requires
    (λ k some within. agrees k some (omega arith))
    (pieces-behind_first c.args.line.now apart.0 c.spans.left.now c.in-Some.more.now c.in-Some.span.now apart.1 c.in-Some.ensures.cases.0 (omega arith))
    c.spans.invariant.written

pub returns-clause-ok : goal.returns-clause-ok
returns-clause-ok c = λ test agrees.
    pieces-done test c.args.line.now c.args.spans.now c.spans.left.now c.spans.out.items c.args.out.now.items c.requires
    (λ k some within. agrees k some (omega arith))
    (pieces-none c.args.line.now c.spans.left.now c.in_default.ensures.cases)
    c.spans.invariant.written
