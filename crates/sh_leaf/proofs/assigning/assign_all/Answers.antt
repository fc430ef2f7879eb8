use Rattle.std.proofs.Common.{List, ℕ, [], ◌∷◌, ◌+◌, drop, ap, sym, subst}
use Rattle.std.proofs.lemmas.List.{drop_all}
use Rattle.std.specs.Prelude.{Option, Ok}
use Rattle.hs_world.specs.declared.var.Var.{Var}
use Rattle.hs_view.specs.Acts.{Loops}
use Rattle.hs_view.proofs.Acting.{acts_on, loops_end, loops_halt}
use Rattle.sh_glob.proofs.Acted.{at_hand}
use Rattle.sh_syntax.specs.declared.tree.Word.{Word}
use Rattle.sh_leaf.specs.Assigning.{Befores, all_assigned, assigned}
use Rattle.sh_leaf.specs.Expanding.{came_by}
use Rattle.sh_leaf.proofs.Coming.{loops_came, loops_failed, loops_short}
use Rattle.sh_leaf.proofs.assigning.assign_all.Goals as goal

pub returns-in_err-came : goal.returns-in_err-came
returns-in_err-came g c =
    let seen = g.B.Base.seen in
    let assigns = c.args.assigns.now in
    let i = c.loop-item.item-index in
    let a = c.item-item.result in
    let whole = all_assigned c.args.exports c.args.status assigns [] in
    let next = λ (b : Option Var). all_assigned c.args.exports c.args.status (drop (i + 1) assigns) ((a.0, b) ∷ c.loop-item.befores) in
    let l = subst (λ (xs : List (List ℕ × Word)). Loops seen whole (all_assigned c.args.exports c.args.status xs c.loop-item.befores) c.args.view.now c.loop-item.view) (at_hand assigns i a c.loop-item-test.true c.item-item.is) c.loop-item.invariant in
    let h = c.in_err-came.field-0.0 in
    acts_on seen whole c.args.view.now c.assign.new.view h _ c.from_residual.ensures.0 c.from_residual.ensures.1
    (loops_halt seen whole (assigned c.args.exports c.args.status a) (came_by next) c.args.view.now c.loop-item.view c.assign.new.view h l c.in_err-came.ensures)

pub returns-in_err-push_before-in-Ok : goal.returns-in_err-push_before-in-Ok
returns-in_err-push_before-in-Ok g c =
    let seen = g.B.Base.seen in
    let assigns = c.args.assigns.now in
    let i = c.loop-item.item-index in
    let a = c.item-item.result in
    let whole = all_assigned c.args.exports c.args.status assigns [] in
    let next = λ (b : Option Var). all_assigned c.args.exports c.args.status (drop (i + 1) assigns) ((a.0, b) ∷ c.loop-item.befores) in
    let l = subst (λ (xs : List (List ℕ × Word)). Loops seen whole (all_assigned c.args.exports c.args.status xs c.loop-item.befores) c.args.view.now c.loop-item.view) (at_hand assigns i a c.loop-item-test.true c.item-item.is) c.loop-item.invariant in
    loops_short seen whole (next c.in-Ok.before) c.args.view.now c.assign.new.view _ c.from_residual-in_err-push_before-in-Ok.ensures.0 c.from_residual-in_err-push_before-in-Ok.ensures.1
    (loops_came seen whole (assigned c.args.exports c.args.status a) next c.args.view.now c.loop-item.view c.assign.new.view c.in_ok-came.came c.in-Ok.before l c.in_ok-came.ensures c.in-Ok.is)

pub returns-in-Err : goal.returns-in-Err
returns-in-Err g c =
    let seen = g.B.Base.seen in
    let assigns = c.args.assigns.now in
    let i = c.loop-item.item-index in
    let a = c.item-item.result in
    let whole = all_assigned c.args.exports c.args.status assigns [] in
    let next = λ (b : Option Var). all_assigned c.args.exports c.args.status (drop (i + 1) assigns) ((a.0, b) ∷ c.loop-item.befores) in
    let l = subst (λ (xs : List (List ℕ × Word)). Loops seen whole (all_assigned c.args.exports c.args.status xs c.loop-item.befores) c.args.view.now c.loop-item.view) (at_hand assigns i a c.loop-item-test.true c.item-item.is) c.loop-item.invariant in
    loops_failed seen whole (assigned c.args.exports c.args.status a) next c.args.view.now c.loop-item.view c.assign.new.view c.in_ok-came.came c.in-Err.why l c.in_ok-came.ensures c.in-Err.is

pub loop-item-preserved : goal.loop-item-preserved
loop-item-preserved g c =
    let seen = g.B.Base.seen in
    let assigns = c.args.assigns.now in
    let i = c.loop-item.item-index in
    let a = c.item-item.result in
    let whole = all_assigned c.args.exports c.args.status assigns [] in
    let next = λ (b : Option Var). all_assigned c.args.exports c.args.status (drop (i + 1) assigns) ((a.0, b) ∷ c.loop-item.befores) in
    let l = subst (λ (xs : List (List ℕ × Word)). Loops seen whole (all_assigned c.args.exports c.args.status xs c.loop-item.befores) c.args.view.now c.loop-item.view) (at_hand assigns i a c.loop-item-test.true c.item-item.is) c.loop-item.invariant in
    subst (λ (bs : Befores). Loops seen whole (all_assigned c.args.exports c.args.status (drop (i + 1) assigns) bs) c.args.view.now c.assign.new.view) (sym c.in_ok-push_before-in-Ok.ensures)
    (loops_came seen whole (assigned c.args.exports c.args.status a) next c.args.view.now c.loop-item.view c.assign.new.view c.in_ok-came.came c.in-Ok.before l c.in_ok-came.ensures c.in-Ok.is)

pub returns : goal.returns
returns g c =
    let assigns = c.args.assigns.now in
    let i = c.loop-item.item-index in
    loops_end g.B.Base.seen (all_assigned c.args.exports c.args.status assigns []) (all_assigned c.args.exports c.args.status (drop i assigns) c.loop-item.befores) c.args.view.now c.loop-item.view (Ok c.loop-item.befores)
    (λ w. ap (λ (xs : List (List ℕ × Word)). all_assigned c.args.exports c.args.status xs c.loop-item.befores w) (drop_all i assigns c.loop-item-test.false)) c.loop-item.invariant
