use Rattle.std.proofs.Common.{◌≡◌, List, [], ◌∷◌, length, refl, sym, ap, ◌∙◌, arith}
use Rattle.hs_world.specs.World.{WorldData}
use Rattle.hs_view.specs.Steps.{nothing}
use Rattle.hs_view.proofs.Acting.{acts_answer, acts_as, acts_first, acts_on, acts_then}
use Rattle.sh_glob.specs.declared.part.Part.{Part}
use Rattle.sh_glob.specs.declared.place.Place.{Place}
use Rattle.sh_glob.specs.Places.{on_from, place, reached, reached_from}
use Rattle.sh_glob.proofs.walk.reach_from.Goals as goal

no_part : (ps : List Part) → length ps ≡ 0 → ps ≡ []
no_part [] h = refl
no_part (p ∷ ps) h = absurd (omega (arith, h))

pub returns-in_err-places-in-Some : goal.returns-in_err-places-in-Some
returns-in_err-places-in-Some g c =
    let at = c.args.at in
    let x = c.in-Some.first.now in
    let rest = c.in-Some.rest.now in
    let one = λ (w : WorldData). nothing (on_from w.tree [] x (place [] at)) w in
    let more = λ (ps : List Place) (w : WorldData). nothing (reached w.tree rest ps) w in
    let h = c.in_err-places-in-Some.field-0.0 in
    acts_on g.B.Base.seen (λ (w : WorldData). nothing (reached_from w.tree at c.args.parts.now) w) c.args.view.now c.first_step.new.view h _ c.from_residual.ensures.0 c.from_residual.ensures.1
    (acts_as g.B.Base.seen (λ (w : WorldData). nothing (reached_from w.tree at (x ∷ rest)) w) (λ (w : WorldData). nothing (reached_from w.tree at c.args.parts.now) w) c.args.view.now c.first_step.new.view _
    (λ u s. ap (λ (ps : List Part). nothing (reached_from u.tree at ps) u) (sym c.in-Some.ensures.cases.0))
    (acts_first g.B.Base.seen one more c.args.view.now c.first_step.new.view h c.in_err-places-in-Some.ensures))

pub returns-in_ok-places-in-Some : goal.returns-in_ok-places-in-Some
returns-in_ok-places-in-Some g c =
    let at = c.args.at in
    let x = c.in-Some.first.now in
    let rest = c.in-Some.rest.now in
    let one = λ (w : WorldData). nothing (on_from w.tree [] x (place [] at)) w in
    let more = λ (ps : List Place) (w : WorldData). nothing (reached w.tree rest ps) w in
    acts_as g.B.Base.seen (λ (w : WorldData). nothing (reached_from w.tree at (x ∷ rest)) w) (λ (w : WorldData). nothing (reached_from w.tree at c.args.parts.now) w) c.args.view.now c.reach.new.view c.reach.result
    (λ u s. ap (λ (ps : List Part). nothing (reached_from u.tree at ps) u) (sym c.in-Some.ensures.cases.0))
    (acts_then g.B.Base.seen one more c.args.view.now c.first_step.new.view c.reach.new.view c.in_ok-places-in-Some.places c.reach.result c.in_ok-places-in-Some.ensures c.reach.ensures)

pub returns-in-None : goal.returns-in-None
returns-in-None g c =
    acts_answer g.B.Base.seen (λ (w : WorldData). nothing (reached_from w.tree c.args.at c.args.parts.now) w) c.args.view.now c.new.result
    (λ u s. ap (λ (ps : List Part). nothing (reached_from u.tree c.args.at ps) u) (no_part c.args.parts.now c.in-None.ensures.cases) ∙ ap (λ (ps : List Place). nothing ps u) (sym c.new.ensures))
