use Rattle.std.proofs.Common.{arith}
use Rattle.util_text.specs.Count.{number}
use Rattle.util_text.proofs.Ranges.{read-count, bounded-zero, bounded-falls, bounded-is}
use Rattle.util_text.proofs.list.bounded.Goals as goal
use Rattle.util_text.proofs.list.bounded.Goals.{then-first-eq0-via-then-first-eq0, then-first-eq0-via-else-first-eq0+then-is_greater}

pub returns-then-first-eq0 : goal.returns-then-first-eq0
returns-then-first-eq0 c =
    let low = number c.args.low.now in
    let high = number c.args.high.now in
    let m = read-count c.args.low.now c.read_count.result c.in_ok-first.first c.in_ok-first.ensures.value c.read_count.ensures.ok in
    let n = read-count c.args.high.now c.read_count-2.result c.in_ok-last.last c.in_ok-last.ensures.value c.read_count-2.ensures.ok in
    elim c.then-first-eq0.branch [
      | then-first-eq0-via-then-first-eq0 w ↦ bounded-zero low high m.0 c.in_ok-first.first m.1 m.2 (omega arith)
      | then-first-eq0-via-else-first-eq0+then-is_greater w ↦ bounded-falls low high m.0 n.0 m.1 n.1 (w.if-is_greater.ensures m.0 n.0 m.1 n.1)
    ]

pub returns : goal.returns
returns c =
    let low = number c.args.low.now in
    let high = number c.args.high.now in
    let m = read-count c.args.low.now c.read_count.result c.in_ok-first.first c.in_ok-first.ensures.value c.read_count.ensures.ok in
    let n = read-count c.args.high.now c.read_count-2.result c.in_ok-last.last c.in_ok-last.ensures.value c.read_count-2.ensures.ok in
    bounded-is low high m.0 n.0 c.in_ok-first.first c.in_ok-last.last m.1 n.1 m.2 n.2 (λ z. omega arith) (c.if-is_greater.ensures m.0 n.0 m.1 n.1)
