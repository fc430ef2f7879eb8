use Rattle.std.proofs.Common.{◌≡◌, sym, ◌∙◌}
use Rattle.std.specs.Prelude.{None}
use Rattle.hs_world.specs.declared.loc.Loc.TheVariants as loc
use Rattle.hs_view.specs.Known.{routes_in, routes_or}
use Rattle.hs_view.proofs.Sounds.{if_more}
use Rattle.hs_view.proofs.Tables.{no-routes, the-routes}
use Rattle.hs_view.proofs.tabled.known_routes.Goals as goal

pub returns-in-None : goal.returns-in-None
returns-in-None c = sym (no-routes c.args.reads.now c.in-None.ensures)

pub returns-in-Some : goal.returns-in-Some
returns-in-Some c =
    if_more c.routes_of.result (λ x. x ≡ routes_or loc.Routes c.in-Some.value.now None) (λ x. x ≡ routes_in c.args.reads.now) (λ x e. e ∙ sym (the-routes c.args.reads.now c.in-Some.value.now c.as_slice-fresh.ensures.fresh c.in-Some.ensures))
    c.routes_of.ensures
