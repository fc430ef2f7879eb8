use Rattle.std.proofs.Common.{List, ℕ, ◌+◌, drop, ap, subst, sym}
use Rattle.std.proofs.lemmas.List.{drop_all}
use Rattle.hs_view.specs.Acts.{Loops}
use Rattle.hs_view.proofs.Acting.{acts_on, loops_start, loops_step, loops_halt, loops_end}
use Rattle.util_common.proofs.Filters.{at_hand}
use Rattle.util_lines.specs.Gathering.{gathered, none_yet, operand_gathered, operands_gathered}
use Rattle.util_lines.specs.declared.gathering.Gathered.{Gathered}
use Rattle.util_lines.proofs.gathering.gather.Goals as goal

pub loop-word-init : goal.loop-word-init
loop-word-init g c =
    let reader = c.args.reader.now in
    let words = c.args.words.now in
    let whole = operands_gathered reader.utility.now reader.bad none_yet words in
    subst (λ (t : List (List ℕ)). Loops g.B.Base.seen whole (operands_gathered reader.utility.now reader.bad (gathered t 0) words) c.args.view.now c.args.view.now) (sym c.new.ensures)
    (loops_start g.B.Base.seen whole c.args.view.now)

pub returns-in_err-so_far : goal.returns-in_err-so_far
returns-in_err-so_far g c =
    let reader = c.args.reader.now in
    let words = c.args.words.now in
    let so_far = c.loop-word.so_far in
    let whole = operands_gathered reader.utility.now reader.bad none_yet words in
    let rest = drop (c.loop-word.word-index + 1) words in
    let d = at_hand words c.loop-word.word-index c.word-item.result c.loop-word-test.true c.word-item.is in
    let next = c.gather_operand.new.view in
    let h = c.in_err-so_far.field-0.0 in
    let k = subst (λ (ws : List (List ℕ)). Loops g.B.Base.seen whole (operands_gathered reader.utility.now reader.bad so_far ws) c.args.view.now c.loop-word.view) d c.loop-word.invariant in
    acts_on g.B.Base.seen whole c.args.view.now next h _ c.from_residual.ensures.0 c.from_residual.ensures.1
    (loops_halt g.B.Base.seen whole (operand_gathered reader.utility.now reader.bad so_far c.word-item.result) (λ (q : Gathered). operands_gathered reader.utility.now reader.bad q rest) c.args.view.now c.loop-word.view next h k c.in_err-so_far.ensures)

pub loop-word-preserved : goal.loop-word-preserved
loop-word-preserved g c =
    let reader = c.args.reader.now in
    let words = c.args.words.now in
    let so_far = c.loop-word.so_far in
    let whole = operands_gathered reader.utility.now reader.bad none_yet words in
    let rest = drop (c.loop-word.word-index + 1) words in
    let d = at_hand words c.loop-word.word-index c.word-item.result c.loop-word-test.true c.word-item.is in
    let k = subst (λ (ws : List (List ℕ)). Loops g.B.Base.seen whole (operands_gathered reader.utility.now reader.bad so_far ws) c.args.view.now c.loop-word.view) d c.loop-word.invariant in
    loops_step g.B.Base.seen whole (operand_gathered reader.utility.now reader.bad so_far c.word-item.result) (λ (q : Gathered). operands_gathered reader.utility.now reader.bad q rest) c.args.view.now c.loop-word.view c.gather_operand.new.view c.in_ok-so_far.so_far k
    c.in_ok-so_far.ensures

pub returns : goal.returns
returns g c =
    let reader = c.args.reader.now in
    let words = c.args.words.now in
    let so_far = c.loop-word.so_far in
    loops_end g.B.Base.seen (operands_gathered reader.utility.now reader.bad none_yet words) (operands_gathered reader.utility.now reader.bad so_far (drop c.loop-word.word-index words)) c.args.view.now c.loop-word.view so_far
    (λ w. ap (λ (ws : List (List ℕ)). operands_gathered reader.utility.now reader.bad so_far ws w) (drop_all c.loop-word.word-index words c.loop-word-test.false)) c.loop-word.invariant
