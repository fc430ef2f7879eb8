use Rattle.std.proofs.Common.{List, ℕ, ◌+◌, drop, false, ap, subst}
use Rattle.std.proofs.lemmas.List.{drop_all}
use Rattle.hs_view.specs.Acts.{Loops}
use Rattle.hs_view.proofs.Acting.{acts_on, loops_start, loops_step, loops_halt, loops_end}
use Rattle.util_common.proofs.Filters.{at_hand}
use Rattle.util_lines.specs.Selecting.{found_by, operand_searched, words_searched}
use Rattle.util_lines.specs.declared.selecting.Found.{Found}
use Rattle.util_lines.proofs.selecting.search_words.Goals as goal

pub loop-word-init : goal.loop-word-init
loop-word-init g c = loops_start g.B.Base.seen (words_searched c.args.search.now c.args.several (found_by false false) c.args.words.now) c.args.view.now

pub returns-in_err-found : goal.returns-in_err-found
returns-in_err-found g c =
    let search = c.args.search.now in
    let several = c.args.several in
    let found = c.loop-word.found in
    let whole = words_searched search several (found_by false false) c.args.words.now in
    let rest = drop (c.loop-word.word-index + 1) c.args.words.now in
    let d = at_hand c.args.words.now c.loop-word.word-index c.word-item.result c.loop-word-test.true c.word-item.is in
    let next = c.search_operand.new.view in
    let h = c.in_err-found.field-0.0 in
    let k = subst (λ (ws : List (List ℕ)). Loops g.B.Base.seen whole (words_searched search several found ws) c.args.view.now c.loop-word.view) d c.loop-word.invariant in
    acts_on g.B.Base.seen whole c.args.view.now next h _ c.from_residual.ensures.0 c.from_residual.ensures.1
    (loops_halt g.B.Base.seen whole (operand_searched search several c.word-item.result found) (λ (q : Found). words_searched search several q rest) c.args.view.now c.loop-word.view next h k c.in_err-found.ensures)

pub loop-word-preserved : goal.loop-word-preserved
loop-word-preserved g c =
    let search = c.args.search.now in
    let several = c.args.several in
    let found = c.loop-word.found in
    let whole = words_searched search several (found_by false false) c.args.words.now in
    let rest = drop (c.loop-word.word-index + 1) c.args.words.now in
    let d = at_hand c.args.words.now c.loop-word.word-index c.word-item.result c.loop-word-test.true c.word-item.is in
    let k = subst (λ (ws : List (List ℕ)). Loops g.B.Base.seen whole (words_searched search several found ws) c.args.view.now c.loop-word.view) d c.loop-word.invariant in
    loops_step g.B.Base.seen whole (operand_searched search several c.word-item.result found) (λ (q : Found). words_searched search several q rest) c.args.view.now c.loop-word.view c.search_operand.new.view c.in_ok-found.found k
    c.in_ok-found.ensures

pub returns : goal.returns
returns g c =
    let search = c.args.search.now in
    let several = c.args.several in
    let found = c.loop-word.found in
    loops_end g.B.Base.seen (words_searched search several (found_by false false) c.args.words.now) (words_searched search several found (drop c.loop-word.word-index c.args.words.now)) c.args.view.now c.loop-word.view found
    (λ w. ap (λ (ws : List (List ℕ)). words_searched search several found ws w) (drop_all c.loop-word.word-index c.args.words.now c.loop-word-test.false)) c.loop-word.invariant
