use Rattle.std.proofs.Common.{◌≡◌, ℕ, ◌+◌, ◌<◌, ◌≤◌, Bool, true, false, List, [], ◌∷◌, ◌++◌, map, refl, sym, ap, ◌∙◌, subst, arith}
use Rattle.std.specs.Prelude.{Option, Some, None, Result, Ok, Err}
use Rattle.hs_view.specs.Acts.{Acts}
use Rattle.hs_view.specs.declared.halt.Halt.{Halt}
use Rattle.sh_param.specs.Plans.{Plan, fields, first, gives}
use Rattle.sh_param.specs.declared.answer.Expanded.{Expanded}
use Rattle.sh_expand.specs.Calls.{Begins, Expands, Lessens, going_of, left_by, state_going, status_in}
use Rattle.sh_expand.specs.Going.{IsReady, ended, plan_at, waiting}
use Rattle.sh_expand.specs.declared.expansion.State.{State}
use Rattle.sh_expand.proofs.Calls.{together}
use Rattle.sh_expand.proofs.Inward.{words_in_turn}
use Rattle.sh_expand.proofs.Steps.{err_on, reaches_from}
use Rattle.sh_expand.proofs.expansion.expand.Goals as goal

pub go_from-requires : goal.go_from-requires
go_from-requires g c = subst (λ (s : State). IsReady (state_going s) c.args.out) (sym c.replace-state.ensures.value) c.requires

pub returns-in_err-expanded-clause-acts : goal.returns-in_err-expanded-clause-acts
returns-in_err-expanded-clause-acts g c =
    let h = c.in_err-expanded.field-0.0 in
    let b = c.go_from.new.view in
    err_on (λ (r : Result Expanded Halt). Expands g.B.Base.seen (plan_at (going_of c.args.going.now) c.args.out) (state_going c.replace-state.new.dest) c.args.view.now b r) h c.from_residual.result c.from_residual.ensures.0 c.from_residual.ensures.1
    (subst (λ (s : State). Acts g.B.Base.seen (first (plan_at (state_going s) c.args.out)) c.args.view.now b (Err h)) c.replace-state.ensures.value c.in_err-expanded.ensures, ap state_going c.replace-state.ensures.after)

pub returns-in_err-expanded-clause-law : goal.returns-in_err-expanded-clause-law
returns-in_err-expanded-clause-law g c = together g.B.Base.seen

pub returns-clause-acts : goal.returns-clause-acts
returns-clause-acts g c = reaches_from g.B.Base.seen _ _ c.args.out _ c.args.view.now c.go_from.new.view _ c.replace-state.ensures.value c.in_ok-expanded.ensures

pub returns-clause-law : goal.returns-clause-law
returns-clause-law g c = together g.B.Base.seen

pub returns-in_err-expanded-clause-between : goal.returns-in_err-expanded-clause-between
returns-in_err-expanded-clause-between g c = words_in_turn

pub returns-clause-between : goal.returns-clause-between
returns-clause-between g c = words_in_turn
