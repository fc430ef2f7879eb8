use Rattle.std.proofs.Common.{ap, sym, ◌∙◌}
use Rattle.std.specs.FinMap as map
use Rattle.std.specs.Ordering.{nat_cmp}
use Rattle.hs_world.proofs.Maps.{get_entry}
use Rattle.std.specs.Cmp.{nat_cmp_total}
use Rattle.hs_overlay.proofs.marks.KeptMarks.get.Goals as goal

pub returns : goal.returns
returns c = c.get.ensures.value ∙ sym (get_entry nat_cmp nat_cmp_total c.self.inside.entries.entries c.args.descriptor) ∙ ap (λ m. map.get m c.args.descriptor) c.self.view_is
