use Rattle.std.proofs.Common.{ap, ◌∙◌}
use Rattle.hs_world.specs.Paths.{are_names, parent}
use Rattle.hs_world.proofs.Names.{names-parent, parent-take}
use Rattle.hs_world.proofs.path.PathName.pop.Goals as goal

pub invariant_of-self : goal.invariant_of-self
invariant_of-self c = ap are_names (c.pop.ensures ∙ parent-take c.self.inside.names) ∙ names-parent c.self.inside.names c.self.invariant

pub returns : goal.returns
returns c = c.pop.ensures ∙ parent-take c.self.inside.names ∙ ap parent c.self.view_is
