use Rattle.std.proofs.Common.{ap, sym, ◌∙◌}
use Rattle.std.specs.FinMap as map
use Rattle.hs_world.specs.Locs.{loc_cmp, locs_total}
use Rattle.hs_world.proofs.Maps.{get_entry}
use Rattle.hs_world.proofs.record.Places.get.Goals as goal

pub returns-in-Some : goal.returns-in-Some
returns-in-Some c = c.in-Some.ensures.value ∙ sym (get_entry loc_cmp locs_total c.self.inside.entries.entries c.args.loc.now) ∙ ap (λ m. map.get m c.args.loc.now) c.self.view_is

pub returns-in-None : goal.returns-in-None
returns-in-None c = c.in-None.ensures.value ∙ sym (get_entry loc_cmp locs_total c.self.inside.entries.entries c.args.loc.now) ∙ ap (λ m. map.get m c.args.loc.now) c.self.view_is
