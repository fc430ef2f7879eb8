use Rattle.std.proofs.Common.{◌≡◌, ℕ, ◌+◌, ◌<◌, ◌≤◌, Bool, true, false, List, [], ◌∷◌, ◌++◌, map, refl, sym, ap, ◌∙◌, subst, arith}
use Rattle.std.specs.Prelude.{Option, Some, None, Result, Ok, Err}
use Rattle.sh_syntax.specs.declared.tree.Part.{Part}
use Rattle.sh_param.specs.Parts.{parts_mean}
use Rattle.sh_param.specs.Plans.{Plan, fields, first, gives}
use Rattle.sh_param.specs.declared.answer.Expanded.{Expanded}
use Rattle.sh_expand.specs.Moves.{Called, Stepped}
use Rattle.sh_expand.specs.Rest.{after_word, behind_parts, means, next_of, opens_mean, part_plan, rest_of, waiting_of}
use Rattle.sh_expand.specs.Weights.{open_weight, opens_weight, part_weight, parts_weight, weight, words_weight}
use Rattle.sh_expand.specs.declared.machine.Machine.{Machine}
use Rattle.sh_expand.proofs.Steps.{lessens_more, lessens_ok, no_length, part_more}
use Rattle.sh_expand.proofs.machine.Machine.step.Goals as goal

pub returns-in-Some-clause-moves : goal.returns-in-Some-clause-moves
returns-in-Some-clause-moves g c =
    let x = c.args.self.now in
    let y = c.part.new.self in
    let e = ap (λ (ps : List Part). parts_mean x.mode x.start (means ps) x.pieces (behind_parts x)) c.in-Some.ensures.cases.0 in
    subst (λ (z : Plan). Stepped g.B.Base.seen z (rest_of y) (waiting_of y) c.args.view.now c.part.new.view c.part.result) (sym e) c.part.ensures.moves

pub returns-in-Some-clause-weighs : goal.returns-in-Some-clause-weighs
returns-in-Some-clause-weighs g c =
    let x = c.args.self.now in
    let y : Machine = record x { parts = c.in-Some.rest } in
    let p = c.in-Some.part.now in
    let r = c.in-Some.rest.now in
    lessens_more c.part.new.self (part_weight p + weight y) (weight x) c.part.result
    (part_more (part_weight p) (parts_weight r) (opens_weight x.open) (words_weight x.words.now) (parts_weight x.parts.now) (ap parts_weight c.in-Some.ensures.cases.0))
    (lessens_ok c.part.new.self (part_weight p + weight y) c.part.result c.part.ensures.weighs)

pub returns-in-None-clause-moves : goal.returns-in-None-clause-moves
returns-in-None-clause-moves g c =
    let x = c.args.self.now in
    let y = c.end_parts.new.self in
    let e = ap (λ (ps : List Part). parts_mean x.mode x.start (means ps) x.pieces (behind_parts x)) (no_length x.parts.now c.in-None.ensures.cases) in
    subst (λ (z : Plan). Stepped g.B.Base.seen z (rest_of y) (waiting_of y) c.args.view.now c.end_parts.new.view c.end_parts.result) (sym e) c.end_parts.ensures.moves

pub returns-in-None-clause-weighs : goal.returns-in-None-clause-weighs
returns-in-None-clause-weighs g c = c.end_parts.ensures.weighs
