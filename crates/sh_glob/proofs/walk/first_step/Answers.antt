use Rattle.std.proofs.Common.{List, [], ◌++◌, ap, ◌∙◌}
use Rattle.hs_world.specs.World.{WorldData}
use Rattle.hs_view.specs.Steps.{nothing}
use Rattle.hs_view.proofs.Acting.{acts_as}
use Rattle.sh_glob.specs.declared.place.Place.{Place}
use Rattle.sh_glob.specs.Places.{on_from, place}
use Rattle.sh_glob.proofs.walk.first_step.Goals as goal

pub returns : goal.returns
returns g c =
    let part = c.args.part.now in
    acts_as g.B.Base.seen (λ (w : WorldData). nothing (c.new-places.result ++ on_from w.tree [] part c.start-from.result) w) (λ (w : WorldData). nothing (on_from w.tree [] part (place [] c.args.at)) w) c.args.view.now c.step.new.view c.step.result
    (λ u s. ap (λ (ps : List Place). nothing (ps ++ on_from u.tree [] part c.start-from.result) u) c.new-places.ensures ∙ ap (λ (p : Place). nothing (on_from u.tree [] part p) u) c.start-from.ensures) c.step.ensures
