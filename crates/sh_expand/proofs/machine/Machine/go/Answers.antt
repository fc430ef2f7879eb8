use Rattle.std.proofs.Common.{◌≡◌, ℕ, ◌+◌, ◌<◌, ◌≤◌, Bool, true, false, List, [], ◌∷◌, ◌++◌, map, refl, sym, ap, ◌∙◌, subst, arith}
use Rattle.std.specs.Prelude.{Option, Some, None, Result, Ok, Err}
use Rattle.hs_view.proofs.Acting.{loops_start}
use Rattle.sh_param.specs.Plans.{Plan, fields, first, gives}
use Rattle.sh_param.specs.declared.answer.Expanded.{Expanded}
use Rattle.sh_expand.specs.Calls.{Begins, Expands, Lessens, going_of, left_by, state_going, status_in}
use Rattle.sh_expand.specs.Moves.{Called, Stepped}
use Rattle.sh_expand.specs.Rest.{after_word, behind_parts, means, next_of, opens_mean, part_plan, rest_of, waiting_of}
use Rattle.sh_expand.specs.Weights.{open_weight, opens_weight, part_weight, parts_weight, weight, words_weight}
use Rattle.sh_expand.proofs.Moving.{done_then, loops_then, same_plan, undone}
use Rattle.sh_expand.proofs.Steps.{arrives_called, calls_on}
use Rattle.sh_expand.proofs.machine.Machine.go.Goals as goal

pub steps-init : goal.steps-init
steps-init g c = loops_start g.B.Base.seen (first (rest_of c.args.self.now)) c.args.view.now

pub returns-in_err-stepped : goal.returns-in_err-stepped
returns-in_err-stepped g c =
    let h = c.in_err-stepped.field-0.0 in
    let b = c.step.new.view in
    calls_on g.B.Base.seen (rest_of c.args.self.now) (waiting_of c.step.new.self) c.args.view.now b h c.from_residual.result c.from_residual.ensures.0 c.from_residual.ensures.1 (c.steps.invariant.on b (Err h) c.in_err-stepped.ensures.moves)

pub returns-in-Some : goal.returns-in-Some
returns-in-Some g c =
    let x = c.steps.self in
    let y = c.step.new.self in
    let b = c.step.new.view in
    arrives_called g.B.Base.seen (rest_of c.args.self.now) (rest_of x) (waiting_of y) c.args.view.now c.steps.view b c.in-Some.expanded c.steps.invariant
    (subst (λ (o : Option Expanded). Stepped g.B.Base.seen (rest_of x) (rest_of y) (waiting_of y) c.steps.view b (Ok o)) c.in-Some.is c.in_ok-stepped.ensures.moves)

pub steps-smaller : goal.steps-smaller
steps-smaller g c = subst (λ (o : Option Expanded). Lessens c.step.new.self (weight c.steps.self) (Ok o)) c.in-None.is c.in_ok-stepped.ensures.weighs

pub steps-preserved : goal.steps-preserved
steps-preserved g c =
    let x = c.steps.self in
    let y = c.step.new.self in
    let b = c.step.new.view in
    loops_then g.B.Base.seen (rest_of c.args.self.now) (rest_of x) (rest_of y) c.args.view.now c.steps.view b c.steps.invariant
    (subst (λ (o : Option Expanded). Stepped g.B.Base.seen (rest_of x) (rest_of y) (waiting_of y) c.steps.view b (Ok o)) c.in-None.is c.in_ok-stepped.ensures.moves)
