use Rattle.std.proofs.Common.{[], ◌∷◌, ap, sym, ◌∙◌, arith, length}
use Rattle.std.proofs.lemmas.List.{length-append}
use Rattle.hs_view.specs.Pushes.{standing}
use Rattle.hs_view.proofs.Pushing.{inputs-below, routes-below, counted-more}
use Rattle.hs_view.proofs.Putting.{written-none}
use Rattle.hs_view.proofs.own.OwnEffects.push_to.Goals as goal

pub step-requires-clause-inputs : goal.step-requires-clause-inputs
step-requires-clause-inputs g c =
    let e = ap (λ s. s.inputs) (c.make_room.ensures.same ∙ c.self.invariant) in
    let n = ap length (c.as_slice-count.ensures ∙ c.in_ok-push_both.ensures.ok) ∙ length-append c.self.inside.effects (c.args.effect ∷ []) in
    omega (arith, e, inputs-below c.self.inside.effects, n)

pub step-requires-clause-routes : goal.step-requires-clause-routes
step-requires-clause-routes g c =
    let e = ap (λ s. s.routes) (c.make_room.ensures.same ∙ c.self.invariant) in
    let n = ap length (c.as_slice-count.ensures ∙ c.in_ok-push_both.ensures.ok) ∙ length-append c.self.inside.effects (c.args.effect ∷ []) in
    omega (arith, e, routes-below c.self.inside.effects, n)

pub invariant_of-self-2 : goal.invariant_of-self-2
invariant_of-self-2 g c =
    counted-more c.self.inside.effects c.args.effect _ _ _ _ c.of-mark.ensures c.self.invariant c.make_room.ensures.same c.step.ensures ∙ ap standing (sym c.in_ok-push_both.ensures.ok)

pub returns-then-is_err-clause-written : goal.returns-then-is_err-clause-written
returns-then-is_err-clause-written g c = written-none _ _ _
