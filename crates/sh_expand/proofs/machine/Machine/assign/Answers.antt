use Rattle.std.proofs.Common.{Bool, List, ℕ, cond, sym, ap, ◌∙◌}
use Rattle.std.specs.Prelude.{codes}
use Rattle.sh_param.specs.Kinds.{kind_of}
use Rattle.sh_param.specs.Messages.{message}
use Rattle.sh_param.specs.Parts.{assignment_means, is_variable, variable_means}
use Rattle.sh_param.specs.Plans.{Plan, fails}
use Rattle.sh_expand.specs.Rest.{means, next_of, rest_of}
use Rattle.sh_expand.proofs.Moving.{failing, tried_on}
use Rattle.sh_expand.proofs.Looking.{plan_acts, plan_loops, tried_memory}
use Rattle.sh_expand.proofs.machine.Machine.assign.Goals as goal

abbrev by_kind : Plan → Plan → Bool → Plan
by_kind p q b = cond b p q

pub returns-in_err-why-clause-moves : goal.returns-in_err-why-clause-moves
returns-in_err-why-clause-moves g c =
    let x = c.args.self.now in
    tried_memory g.B.Base.seen (assignment_means x.mode c.args.name.now c.args.colon (means c.args.word.now) x.pieces (next_of x)) (rest_of x) c.args.view.now _ c.from_residual-in_err-why.ensures.0 c.from_residual-in_err-why.ensures.1

pub returns-clause-moves : goal.returns-clause-moves
returns-clause-moves g c =
    let x = c.args.self.now in
    let p = variable_means x.mode c.args.name.now c.args.colon (means c.args.word.now) x.pieces (next_of x) in
    let q = fails (message c.args.name.now (codes "cannot assign")) in
    failing g.B.Base.seen (assignment_means x.mode c.args.name.now c.args.colon (means c.args.word.now) x.pieces (next_of x)) c.args.view.now c.in_ok-why.why
    (ap (by_kind p q) (ap (λ (n : List ℕ). is_variable (kind_of n)) (sym c.as_slice.ensures) ∙ sym c.is_variable.ensures ∙ c.if-is_variable.false)
    ∙ ap (λ (n : List ℕ). fails (message n (codes "cannot assign"))) (sym c.as_slice-2.ensures)
    ∙ ap fails (sym c.in_ok-why.ensures))

pub returns-in_err-assign_variable-clause-moves : goal.returns-in_err-assign_variable-clause-moves
returns-in_err-assign_variable-clause-moves g c =
    let x = c.args.self.now in
    let p = variable_means x.mode c.args.name.now c.args.colon (means c.args.word.now) x.pieces (next_of x) in
    let q = fails (message c.args.name.now (codes "cannot assign")) in
    tried_on g.B.Base.seen (assignment_means x.mode c.args.name.now c.args.colon (means c.args.word.now) x.pieces (next_of x)) (rest_of c.assign_variable.new.self) c.args.view.now c.assign_variable.new.view c.in_err-assign_variable.field-0.0 _
    c.from_residual.ensures.0 c.from_residual.ensures.1
    (plan_acts g.B.Base.seen (by_kind p q (is_variable (kind_of c.args.name.now))) p c.args.view.now c.assign_variable.new.view c.in_err-assign_variable.field-0.0
    (ap (by_kind p q) (ap (λ (n : List ℕ). is_variable (kind_of n)) (sym c.as_slice.ensures) ∙ sym c.is_variable.ensures ∙ c.if-is_variable.true)) c.in_err-assign_variable.ensures.moves)

pub returns-then-is_variable-clause-moves : goal.returns-then-is_variable-clause-moves
returns-then-is_variable-clause-moves g c =
    let x = c.args.self.now in
    let p = variable_means x.mode c.args.name.now c.args.colon (means c.args.word.now) x.pieces (next_of x) in
    let q = fails (message c.args.name.now (codes "cannot assign")) in
    plan_loops g.B.Base.seen (by_kind p q (is_variable (kind_of c.args.name.now))) p (rest_of c.assign_variable.new.self) c.args.view.now c.assign_variable.new.view
    (ap (by_kind p q) (ap (λ (n : List ℕ). is_variable (kind_of n)) (sym c.as_slice.ensures) ∙ sym c.is_variable.ensures ∙ c.if-is_variable.true)) c.in_ok-assign_variable.ensures.moves
