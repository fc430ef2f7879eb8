use Rattle.std.proofs.Common.{List, ℕ, ◌++◌, ap, ◌∙◌}
use Rattle.std.specs.List.{flat_map}
use Rattle.hs_world.specs.World.{WorldData}
use Rattle.sh_glob.specs.Places.{choices, on_by}
use Rattle.sh_glob.proofs.Acted.{acts_made, acts_made_halt, acts_made_short}
use Rattle.sh_glob.proofs.walk.step.Goals as goal

pub returns-in_err-found : goal.returns-in_err-found
returns-in_err-found g c =
    let at = c.args.from.now.at in
    let part = c.args.part.now in
    let h = λ (w : WorldData). choices w.tree at part in
    let f = λ (xs : List (List ℕ)). c.args.places ++ flat_map (on_by c.args.before.now c.args.from.now) xs in
    acts_made_halt g.B.Base.seen h f c.args.view.now c.choices.new.view c.in_err-found.field-0.0 _ c.from_residual.ensures.0 c.from_residual.ensures.1 c.in_err-found.ensures

pub returns-in_err-all : goal.returns-in_err-all
returns-in_err-all g c =
    let at = c.args.from.now.at in
    let part = c.args.part.now in
    let h = λ (w : WorldData). choices w.tree at part in
    let f = λ (xs : List (List ℕ)). c.args.places ++ flat_map (on_by c.args.before.now c.args.from.now) xs in
    acts_made_short g.B.Base.seen h f c.args.view.now c.choices.new.view c.in_ok-found.found _ c.from_residual-in_err-all.ensures.0 c.from_residual-in_err-all.ensures.1 c.in_ok-found.ensures

pub returns : goal.returns
returns g c =
    let at = c.args.from.now.at in
    let part = c.args.part.now in
    let h = λ (w : WorldData). choices w.tree at part in
    let f = λ (xs : List (List ℕ)). c.args.places ++ flat_map (on_by c.args.before.now c.args.from.now) xs in
    acts_made g.B.Base.seen h f c.args.view.now c.choices.new.view c.in_ok-found.found c.in_ok-all.all (c.in_ok-all.ensures ∙ ap f c.as_slice.ensures) c.in_ok-found.ensures
