use Rattle.std.proofs.Common.{◌≡◌, ℕ, ◌+◌, ◌<◌, ◌≤◌, Bool, true, false, List, [], ◌∷◌, ◌++◌, map, refl, sym, ap, ◌∙◌, subst, arith}
use Rattle.std.specs.Prelude.{Option, Some, None, Result, Ok, Err}
use Rattle.sh_param.specs.Plans.{Plan, fields, first, gives}
use Rattle.sh_expand.specs.Calls.{Begins, Expands, Lessens, going_of, left_by, state_going, status_in}
use Rattle.sh_expand.specs.Going.{IsReady, ended, plan_at, waiting}
use Rattle.sh_expand.specs.Rest.{after_word, behind_parts, means, next_of, opens_mean, part_plan, rest_of, waiting_of}
use Rattle.sh_expand.specs.declared.expansion.State.{State}
use Rattle.sh_expand.proofs.expansion.go_from.Goals as goal

pub unreachable-requires : goal.unreachable-requires
unreachable-requires g c =
    let k = waiting_of c.in-Waiting.machine in
    subst (λ (o : Option (List ℕ)). IsReady (waiting k) o) c.in-None.is (subst (λ (s : State). IsReady (state_going s) c.args.out.now) c.in-Waiting.is c.requires)

pub unreachable-requires-in-Ended : goal.unreachable-requires-in-Ended
unreachable-requires-in-Ended g c = subst (λ (s : State). IsReady (state_going s) c.args.out.now) c.in-Ended.is c.requires

pub returns-in-Fresh : goal.returns-in-Fresh
returns-in-Fresh g c =
    subst (λ (z : Plan). Begins g.B.Base.seen z c.args.view.now c.begin_fresh.new.view c.begin_fresh.result) (sym (ap (λ (s : State). plan_at (state_going s) c.args.out.now) c.in-Fresh.is)) c.begin_fresh.ensures

pub returns-in-Some : goal.returns-in-Some
returns-in-Some g c =
    let k = waiting_of c.in-Waiting.machine in
    let e = ap (λ (s : State). plan_at (state_going s) c.args.out.now) c.in-Waiting.is ∙ ap (λ (o : Option (List ℕ)). plan_at (waiting k) o) c.in-Some.is in
    subst (λ (z : Plan). Begins g.B.Base.seen z c.args.view.now c.go_behind.new.view c.go_behind.result) (sym e) c.go_behind.ensures
