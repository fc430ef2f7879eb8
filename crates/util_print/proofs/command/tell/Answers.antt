use Rattle.std.proofs.Common.{List, ℕ, ◌+◌, drop, sym, ap, subst}
use Rattle.std.proofs.lemmas.List.{drop_all}
use Rattle.hs_world.specs.declared.effect.Fd.TheVariants.{One}
use Rattle.hs_view.specs.Acts.{Loops}
use Rattle.hs_view.proofs.Acting.{acts_as, acts_on, loops_halt, loops_start, loops_step}
use Rattle.util_common.specs.Operands.{emitted}
use Rattle.util_common.proofs.Filters.{at_hand}
use Rattle.util_print.specs.Printf.{complained, told}
use Rattle.util_print.proofs.command.tell.Goals as goal

pub words-init : goal.words-init
words-init g c = loops_start g.B.Base.seen (told c.args.bad.now c.args.text 0) c.args.view.now

pub returns-in_err-status : goal.returns-in_err-status
returns-in_err-status g c =
    let whole = told c.args.bad.now c.args.text 0 in
    let rest = drop (c.words.word-index + 1) c.args.bad.now in
    let d = at_hand c.args.bad.now c.words.word-index c.word-item.result c.words-test.true c.word-item.is in
    let h = c.in_err-status.field-0.0 in
    let next = c.write_message.new.view in
    let k = subst (λ (ws : List (List ℕ)). Loops g.B.Base.seen whole (told ws c.args.text c.words.status) c.args.view.now c.words.view) d c.words.invariant in
    acts_on g.B.Base.seen whole c.args.view.now next h _ c.from_residual.ensures.0 c.from_residual.ensures.1
    (loops_halt g.B.Base.seen whole (complained c.word-item.result) (λ (q : ℕ). told rest c.args.text q) c.args.view.now c.words.view next h k c.in_err-status.ensures)

pub words-preserved : goal.words-preserved
words-preserved g c =
    let whole = told c.args.bad.now c.args.text 0 in
    let rest = drop (c.words.word-index + 1) c.args.bad.now in
    let d = at_hand c.args.bad.now c.words.word-index c.word-item.result c.words-test.true c.word-item.is in
    let k = subst (λ (ws : List (List ℕ)). Loops g.B.Base.seen whole (told ws c.args.text c.words.status) c.args.view.now c.words.view) d c.words.invariant in
    loops_step g.B.Base.seen whole (complained c.word-item.result) (λ (q : ℕ). told rest c.args.text q) c.args.view.now c.words.view c.write_message.new.view c.in_ok-status.status k c.in_ok-status.ensures

pub returns : goal.returns
returns g c =
    c.words.invariant.on c.emit.new.view c.emit.result
    (acts_as g.B.Base.seen (emitted One c.args.text c.words.status) (told (drop c.words.word-index c.args.bad.now) c.args.text c.words.status) c.words.view c.emit.new.view c.emit.result
    (λ u s. ap (λ (ws : List (List ℕ)). told ws c.args.text c.words.status u) (sym (drop_all c.words.word-index c.args.bad.now c.words-test.false))) c.emit.ensures)
