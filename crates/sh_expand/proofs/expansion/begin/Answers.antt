use Rattle.std.proofs.Common.{◌≡◌, ℕ, ◌+◌, ◌<◌, ◌≤◌, Bool, true, false, List, [], ◌∷◌, ◌++◌, map, refl, sym, ap, ◌∙◌, subst, arith}
use Rattle.std.specs.Prelude.{Option, Some, None, Result, Ok, Err}
use Rattle.hs_view.specs.Acts.{Acts}
use Rattle.sh_syntax.specs.declared.tree.Word.{Word}
use Rattle.sh_param.specs.Plans.{Plan, fields, first, gives}
use Rattle.sh_param.specs.Words.{ended as ended_in, plan_of, plan_with, word_parts}
use Rattle.sh_expand.specs.Calls.{Begins, Expands, Lessens, going_of, left_by, state_going, status_in}
use Rattle.sh_expand.specs.Rest.{after_word, behind_parts, means, next_of, opens_mean, part_plan, rest_of, waiting_of}
use Rattle.sh_expand.specs.Sums.{sums}
use Rattle.sh_expand.proofs.Steps.{begins_on, no_length}
use Rattle.sh_expand.proofs.expansion.begin.Goals as goal

pub returns-in-Some : goal.returns-in-Some
returns-in-Some g c =
    let e = c.new.ensures ∙ sym (ap (λ (l : List Word). plan_with (map (word_parts sums) l) c.args.context c.args.status) c.in-Some.ensures.cases.0) in
    subst (λ (z : Plan). Begins g.B.Base.seen z c.args.view.now c.go_on.new.view c.go_on.result) e c.go_on.ensures

pub returns-in_err-fields-in-None : goal.returns-in_err-fields-in-None
returns-in_err-fields-in-None g c =
    let h = c.in_err-fields-in-None.field-0.0 in
    let p = plan_with (map (word_parts sums) c.args.words.now) c.args.context c.args.status in
    let e = ap (λ (l : List Word). plan_with (map (word_parts sums) l) c.args.context c.args.status) (no_length c.args.words.now c.in-None.ensures.cases) ∙ ap (ended_in c.args.context) (sym c.new-pieces.ensures) in
    begins_on g.B.Base.seen p c.args.view.now c.finish.new.view h c.from_residual.result c.from_residual.ensures.0 c.from_residual.ensures.1
    (subst (λ (z : Plan). Acts g.B.Base.seen (first z) c.args.view.now c.finish.new.view (Err h)) (sym e) c.in_err-fields-in-None.ensures)

pub returns-in_ok-fields-in-None : goal.returns-in_ok-fields-in-None
returns-in_ok-fields-in-None g c =
    let fs = c.in_ok-fields-in-None.fields in
    let e = ap (λ (l : List Word). plan_with (map (word_parts sums) l) c.args.context c.args.status) (no_length c.args.words.now c.in-None.ensures.cases) ∙ ap (ended_in c.args.context) (sym c.new-pieces.ensures) in
    record {
      reached = fields fs;
      is = refl;
      acts = subst (λ (z : Plan). Acts g.B.Base.seen (first z) c.args.view.now c.finish.new.view (Ok (fields fs))) (sym e) c.in_ok-fields-in-None.ensures;
      leaves = refl;
    }
