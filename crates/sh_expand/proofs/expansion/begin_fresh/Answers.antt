use Rattle.std.proofs.Common.{◌≡◌, ℕ, ◌+◌, ◌<◌, ◌≤◌, Bool, true, false, List, [], ◌∷◌, ◌++◌, map, refl, sym, ap, ◌∙◌, subst, arith}
use Rattle.std.specs.Prelude.{Option, Some, None, Result, Ok, Err}
use Rattle.sh_param.specs.Words.{ended as ended_in, plan_of, plan_with, word_parts}
use Rattle.sh_expand.specs.Calls.{Begins, Expands, Lessens, going_of, left_by, state_going, status_in}
use Rattle.sh_expand.specs.Sums.{sums}
use Rattle.sh_expand.proofs.Steps.{begins_on, begins_then, fresh_begins, fresh_halts}
use Rattle.sh_expand.proofs.expansion.begin_fresh.Goals as goal

pub returns-in_err-status : goal.returns-in_err-status
returns-in_err-status g c =
    let h = c.in_err-status.field-0.0 in
    let ws = map (word_parts sums) c.args.words.now in
    begins_on g.B.Base.seen (plan_of sums c.args.words.now c.args.context c.args.given) c.args.view.now c.status_of.new.view h c.from_residual.result c.from_residual.ensures.0 c.from_residual.ensures.1
    (fresh_halts g.B.Base.seen ws c.args.context c.args.given c.args.view.now c.status_of.new.view h c.in_err-status.ensures)

pub returns : goal.returns
returns g c =
    let n = c.in_ok-status.status in
    let ws = map (word_parts sums) c.args.words.now in
    begins_then g.B.Base.seen (plan_of sums c.args.words.now c.args.context c.args.given) (plan_with ws c.args.context n) c.args.view.now c.status_of.new.view c.begin.new.view c.begin.result
    (fresh_begins g.B.Base.seen ws c.args.context c.args.given c.args.view.now c.status_of.new.view n c.in_ok-status.ensures) c.begin.ensures
