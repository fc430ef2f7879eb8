use Rattle.std.proofs.Common.{◌≡◌, ℕ, ◌+◌, ◌<◌, ◌≤◌, Bool, true, false, List, [], ◌∷◌, ◌++◌, map, refl, sym, ap, ◌∙◌, subst, arith}
use Rattle.std.specs.Prelude.{Option, Some, None, Result, Ok, Err}
use Rattle.hs_view.specs.Acts.{Acts}
use Rattle.hs_view.specs.declared.halt.Halt.TheVariants as halt
use Rattle.hs_view.proofs.Acting.{acts_memory}
use Rattle.sh_param.specs.Plans.{Plan, fields, first, gives}
use Rattle.sh_param.specs.Words.{ended as ended_in, plan_of, plan_with, word_parts}
use Rattle.sh_expand.specs.Rest.{after_word, behind_parts, means, next_of, opens_mean, part_plan, rest_of, waiting_of}
use Rattle.sh_expand.specs.Weights.{open_weight, opens_weight, part_weight, parts_weight, weight, words_weight}
use Rattle.sh_expand.specs.declared.machine.Machine.{Machine}
use Rattle.sh_expand.proofs.Moving.{done_then, loops_then, same_plan, undone}
use Rattle.sh_expand.proofs.Steps.{lessens_on, no_length, steps_on, word_begins, word_ends, word_less}
use Rattle.sh_expand.proofs.machine.Machine.next_word.Goals as goal

pub returns-in_err-end-clause-moves : goal.returns-in_err-end-clause-moves
returns-in_err-end-clause-moves g c =
    let x = c.args.self.now in
    let y : Machine = record x { pieces = c.end.new.self } in
    let p = after_word x.base x.words.now x.context x.pieces in
    steps_on g.B.Base.seen p (rest_of y) (waiting_of y) c.args.view.now c.args.view.now halt.NoMemory c.from_residual.result c.from_residual.ensures.0 c.from_residual.ensures.1 (acts_memory g.B.Base.seen (first p) c.args.view.now)

pub returns-in_err-end-clause-weighs : goal.returns-in_err-end-clause-weighs
returns-in_err-end-clause-weighs g c =
    let x = c.args.self.now in
    let y : Machine = record x { pieces = c.end.new.self } in
    lessens_on y (parts_weight x.parts.now + words_weight x.words.now) halt.NoMemory c.from_residual.result c.from_residual.ensures.0 c.from_residual.ensures.1

pub returns-in_err-fields-in-None-clause-moves : goal.returns-in_err-fields-in-None-clause-moves
returns-in_err-fields-in-None-clause-moves g c =
    let x = c.args.self.now in
    let y : Machine = record x { pieces = c.end.new.self } in
    let p = after_word x.base x.words.now x.context x.pieces in
    let e = word_ends x.base x.words.now x.context x.pieces c.end.new.self (no_length x.words.now c.in-None.ensures.cases) c.in_ok-end.ensures in
    let h = c.in_err-fields-in-None.field-0.0 in
    steps_on g.B.Base.seen p (rest_of y) (waiting_of y) c.args.view.now c.finish.new.view h c.from_residual-in_err-fields-in-None.result c.from_residual-in_err-fields-in-None.ensures.0 c.from_residual-in_err-fields-in-None.ensures.1
    (subst (λ (z : Plan). Acts g.B.Base.seen (first z) c.args.view.now c.finish.new.view (Err h)) (sym e) c.in_err-fields-in-None.ensures)

pub returns-in_err-fields-in-None-clause-weighs : goal.returns-in_err-fields-in-None-clause-weighs
returns-in_err-fields-in-None-clause-weighs g c =
    let x = c.args.self.now in
    let y : Machine = record x { pieces = c.end.new.self } in
    lessens_on y (parts_weight x.parts.now + words_weight x.words.now) c.in_err-fields-in-None.field-0.0 c.from_residual-in_err-fields-in-None.result c.from_residual-in_err-fields-in-None.ensures.0 c.from_residual-in_err-fields-in-None.ensures.1

pub returns-in_ok-fields-in-None-clause-moves : goal.returns-in_ok-fields-in-None-clause-moves
returns-in_ok-fields-in-None-clause-moves g c =
    let x = c.args.self.now in
    let e = word_ends x.base x.words.now x.context x.pieces c.end.new.self (no_length x.words.now c.in-None.ensures.cases) c.in_ok-end.ensures in
    let fs = c.in_ok-fields-in-None.fields in
    record {
      reached = fields fs;
      is = refl;
      acts = subst (λ (z : Plan). Acts g.B.Base.seen (first z) c.args.view.now c.finish.new.view (Ok (fields fs))) (sym e) c.in_ok-fields-in-None.ensures;
      on = tt;
    }

pub returns-in_ok-fields-in-None-clause-weighs : goal.returns-in_ok-fields-in-None-clause-weighs
returns-in_ok-fields-in-None-clause-weighs g c = tt

pub returns-in-Some-clause-moves : goal.returns-in-Some-clause-moves
returns-in-Some-clause-moves g c =
    let x = c.args.self.now in
    let y = c.begin_word.new.self in
    same_plan g.B.Base.seen (after_word x.base x.words.now x.context x.pieces) (rest_of y) c.args.view.now
    (word_begins x.base x.words.now c.in-Some.word.now c.in-Some.words.now x.context x.pieces c.end.new.self x.open c.in-Some.ensures.cases.0 c.in_ok-end.ensures c.requires ∙ sym c.begin_word.ensures.rest)

pub returns-in-Some-clause-weighs : goal.returns-in-Some-clause-weighs
returns-in-Some-clause-weighs g c =
    let x = c.args.self.now in
    let w = c.in-Some.word.now in
    let ws = c.in-Some.words.now in
    word_less (weight c.begin_word.new.self) (parts_weight x.parts.now) (parts_weight w.parts) (opens_weight x.open) (words_weight ws) (words_weight x.words.now)
    c.begin_word.ensures.weighs (ap opens_weight c.requires) (ap words_weight c.in-Some.ensures.cases.0)
