use Rattle.std.proofs.Common.{ap, ◌∙◌}
use Rattle.hs_world.specs.Files.{is_over}
use Rattle.hs_world.proofs.Trees.{removed_within}
use Rattle.hs_world.proofs.world.World.remove.Goals as goal

pub invariant_of-self : goal.invariant_of-self
invariant_of-self c = ap is_over c.remove.ensures ∙ removed_within c.self.inside.tree c.args.path.now c.self.invariant
