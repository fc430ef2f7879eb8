use Rattle.std.proofs.Common.{List, ℕ, [], ◌∷◌, ◌+◌, drop, ap, subst, refl}
use Rattle.std.specs.Prelude.{Ok}
use Rattle.std.proofs.lemmas.List.{drop_all}
use Rattle.hs_view.specs.Acts.{Loops}
use Rattle.hs_view.proofs.Acting.{loops_start, loops_step, loops_halt, loops_end}
use Rattle.util_common.specs.Operands.{Progress, none_yet, operand_written, operands_written, progress_of}
use Rattle.util_common.proofs.Filters.{at_hand, filtered_err, filtered_ok, filtered_on}
use Rattle.util_common.proofs.each.filter_operands.Goals as goal

pub loop-word-init : goal.loop-word-init
loop-word-init g c = λ text s. ([], s, loops_start g.B.Base.seen (operands_written c.args.utility.now text none_yet c.args.words.now) c.args.view.now)

pub returns-in_err-status : goal.returns-in_err-status
returns-in_err-status g c = λ text s.
    let (contents, stands, l) = c.loop-word.invariant text s in
    let u = c.args.utility.now in
    let p = progress_of contents c.loop-word.status in
    let rest = drop (c.loop-word.word-index + 1) c.args.words.now in
    let d = at_hand c.args.words.now c.loop-word.word-index c.word-item.result c.loop-word-test.true c.word-item.is in
    let h = c.in_err-status.field-0.0 in
    let next = c.filter_operand.new.view in
    let k = subst (λ (ws : List (List ℕ)). Loops g.B.Base.seen (operands_written u text none_yet c.args.words.now) (operands_written u text p ws) c.args.view.now c.loop-word.view) d l in
    filtered_on (λ (b : List (List ℕ)). g.F.Filter.writes c.filter_operand.new.filter text b) g.B.Base.seen (operands_written u text none_yet c.args.words.now) c.args.view.now next h _ c.from_residual.ensures.0 c.from_residual.ensures.1
    (loops_halt g.B.Base.seen (operands_written u text none_yet c.args.words.now) (operand_written u text p c.word-item.result) (λ (q : Progress). operands_written u text q rest) c.args.view.now c.loop-word.view next h k
    (filtered_err (λ (b : List (List ℕ)). g.F.Filter.writes c.filter_operand.new.filter text b) g.B.Base.seen (operand_written u text p c.word-item.result) c.loop-word.view next h (c.in_err-status.ensures text contents stands)))

pub loop-word-preserved : goal.loop-word-preserved
loop-word-preserved g c = λ text s.
    let (contents, stands, l) = c.loop-word.invariant text s in
    let u = c.args.utility.now in
    let p = progress_of contents c.loop-word.status in
    let rest = drop (c.loop-word.word-index + 1) c.args.words.now in
    let d = at_hand c.args.words.now c.loop-word.word-index c.word-item.result c.loop-word-test.true c.word-item.is in
    let x = c.in_ok-status.status in
    let next = c.filter_operand.new.view in
    let k = subst (λ (ws : List (List ℕ)). Loops g.B.Base.seen (operands_written u text none_yet c.args.words.now) (operands_written u text p ws) c.args.view.now c.loop-word.view) d l in
    let (more, after, t) = filtered_ok (λ (b : List (List ℕ)). g.F.Filter.writes c.filter_operand.new.filter text b) g.B.Base.seen (operand_written u text p c.word-item.result) c.loop-word.view next x (c.in_ok-status.ensures text contents stands) in
    (more, after, loops_step g.B.Base.seen (operands_written u text none_yet c.args.words.now) (operand_written u text p c.word-item.result) (λ (q : Progress). operands_written u text q rest) c.args.view.now c.loop-word.view next (progress_of more x) k t)

pub returns : goal.returns
returns g c = λ text s.
    let (contents, stands, l) = c.loop-word.invariant text s in
    let u = c.args.utility.now in
    let p = progress_of contents c.loop-word.status in
    record {
      progress = Ok p;
      is = refl;
      acts = loops_end g.B.Base.seen (operands_written u text none_yet c.args.words.now) (operands_written u text p (drop c.loop-word.word-index c.args.words.now)) c.args.view.now c.loop-word.view p
          (λ w. ap (λ (ws : List (List ℕ)). operands_written u text p ws w) (drop_all c.loop-word.word-index c.args.words.now c.loop-word-test.false)) l;
      behind = stands;
    }
