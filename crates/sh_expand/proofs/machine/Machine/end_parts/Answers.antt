use Rattle.std.proofs.Common.{◌≡◌, ℕ, ◌+◌, ◌<◌, ◌≤◌, Bool, true, false, List, [], ◌∷◌, ◌++◌, map, refl, sym, ap, ◌∙◌, subst, arith}
use Rattle.std.specs.Prelude.{Option, Some, None, Result, Ok, Err}
use Rattle.hs_view.specs.Acts.{Acts}
use Rattle.sh_param.specs.Plans.{Plan, fields, first, gives}
use Rattle.sh_param.specs.declared.answer.Expanded.{Expanded}
use Rattle.sh_expand.specs.Moves.{Called, Stepped}
use Rattle.sh_expand.specs.Rest.{after_word, behind_parts, means, next_of, opens_mean, part_plan, rest_of, waiting_of}
use Rattle.sh_expand.specs.Weights.{open_weight, opens_weight, part_weight, parts_weight, weight, words_weight}
use Rattle.sh_expand.specs.declared.machine.Machine.{Machine}
use Rattle.sh_expand.specs.declared.open.Open.{Open}
use Rattle.sh_expand.proofs.Steps.{between, close_less, lessens, lessens_more, lessens_on, steps_on, tried_steps}
use Rattle.sh_expand.proofs.machine.Machine.end_parts.Goals as goal

pub returns-in_err-why-in-Some-clause-moves : goal.returns-in_err-why-in-Some-clause-moves
returns-in_err-why-in-Some-clause-moves g c =
    let x = c.args.self.now in
    let y = c.close.new.self in
    let k = after_word x.base x.words.now x.context in
    let p = behind_parts x x.pieces in
    let e = ap (λ (os : List Open). opens_mean os k x.pieces) c.in-Some.ensures in
    let h = c.in_err-why-in-Some.field-0.0 in
    steps_on g.B.Base.seen p (rest_of y) (waiting_of y) c.args.view.now c.close.new.view h c.from_residual.result c.from_residual.ensures.0 c.from_residual.ensures.1
    (subst (λ (z : Plan). Acts g.B.Base.seen (first z) c.args.view.now c.close.new.view (Err h)) (sym e) c.in_err-why-in-Some.ensures.moves)

pub returns-in_err-why-in-Some-clause-weighs : goal.returns-in_err-why-in-Some-clause-weighs
returns-in_err-why-in-Some-clause-weighs g c = lessens_on c.close.new.self (weight c.args.self.now) c.in_err-why-in-Some.field-0.0 c.from_residual.result c.from_residual.ensures.0 c.from_residual.ensures.1

pub next_word-requires : goal.next_word-requires
next_word-requires g c = c.in-None.ensures.1

pub returns-in_ok-why-in-Some-clause-moves : goal.returns-in_ok-why-in-Some-clause-moves
returns-in_ok-why-in-Some-clause-moves g c =
    let x = c.args.self.now in
    let y = c.close.new.self in
    let k = after_word x.base x.words.now x.context in
    let e = ap (λ (os : List Open). opens_mean os k x.pieces) c.in-Some.ensures in
    let q = opens_mean (c.in-Some.open ∷ c.pop.new.self) k x.pieces in
    subst (λ (z : Plan). Stepped g.B.Base.seen z (rest_of y) (waiting_of y) c.args.view.now c.close.new.view (Ok c.told.result)) (sym e)
    (tried_steps g.B.Base.seen q (rest_of y) (waiting_of y) c.args.view.now c.close.new.view c.in_ok-why-in-Some.why c.told.result c.told.ensures c.in_ok-why-in-Some.ensures.moves)

pub returns-in_ok-why-in-Some-clause-weighs : goal.returns-in_ok-why-in-Some-clause-weighs
returns-in_ok-why-in-Some-clause-weighs g c =
    let x = c.args.self.now in
    lessens c.close.new.self (weight x) c.told.result
    (close_less (weight c.close.new.self) (open_weight c.in-Some.open) (parts_weight x.parts.now) (opens_weight c.pop.new.self) (words_weight x.words.now) (opens_weight x.open) c.in_ok-why-in-Some.ensures.weighs (ap opens_weight c.in-Some.ensures))

pub returns-in-None-clause-moves : goal.returns-in-None-clause-moves
returns-in-None-clause-moves g c =
    let x = c.args.self.now in
    let y = c.next_word.new.self in
    let k = after_word x.base x.words.now x.context in
    let e = ap (λ (os : List Open). opens_mean os k x.pieces) c.in-None.ensures.0 in
    subst (λ (z : Plan). Stepped g.B.Base.seen z (rest_of y) (waiting_of y) c.args.view.now c.next_word.new.view c.next_word.result) (sym e) c.next_word.ensures.moves

pub returns-in-None-clause-weighs : goal.returns-in-None-clause-weighs
returns-in-None-clause-weighs g c =
    let x = c.args.self.now in
    lessens_more c.next_word.new.self (parts_weight x.parts.now + words_weight x.words.now) (weight x) c.next_word.result (between (parts_weight x.parts.now) (opens_weight x.open) (words_weight x.words.now)) c.next_word.ensures.weighs
