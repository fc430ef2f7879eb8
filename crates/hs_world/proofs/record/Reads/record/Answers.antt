use Rattle.std.proofs.Common.{sym, ap, ◌∙◌, subst, arith}
use Rattle.std.specs.FinMap as map
use Rattle.hs_world.specs.Reads.{IsNew}
use Rattle.hs_world.proofs.Copies.{loc_copied}
use Rattle.hs_world.proofs.Passing.{places_push, places_of}
use Rattle.hs_world.proofs.record.Reads.record.Goals as goal

pub invariant_of-self-in_default : goal.invariant_of-self-in_default
invariant_of-self-in_default c =
    places_of _ _ _ _
    (places_push c.self.inside.items.items c.self.inside.places c.args.loc c.args.value c.len-place.result c.self.invariant (subst (IsNew c.args.loc) (sym c.self.view_is) c.requires.new) (omega (arith, c.len-place.ensures, c.self.inside.items.ok.0)))
    c.in_ok-push.ensures.items
    (c.in_default.ensures.ok ∙ ap (λ l. map.insert c.self.inside.places l c.len-place.result) (loc_copied _ _ c.in_ok-key.ensures.cases))
