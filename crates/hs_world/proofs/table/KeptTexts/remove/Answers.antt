use Rattle.std.proofs.Common.{ap, ◌∙◌}
use Rattle.std.specs.FinMap as map
use Rattle.std.specs.Ordering.{nat_cmp}
use Rattle.hs_world.proofs.Maps.{one_removed}
use Rattle.std.specs.Cmp.{nat_cmp_total}
use Rattle.std.specs.FinMap.{nat_cmp-IsAntisymmetric}
use Rattle.hs_world.proofs.table.KeptTexts.remove.Goals as goal

pub returns : goal.returns
returns c = one_removed nat_cmp nat_cmp_total nat_cmp-IsAntisymmetric c.self.inside.entries.entries c.remove.new.self.entries c.args.descriptor c.remove.ensures.updates.0 ∙ ap (λ m. map.remove m c.args.descriptor) c.self.view_is
