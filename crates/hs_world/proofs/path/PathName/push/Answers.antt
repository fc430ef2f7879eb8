use Rattle.std.proofs.Common.{ap, ◌∙◌}
use Rattle.hs_world.specs.Paths.{are_names}
use Rattle.hs_world.proofs.Names.{names-push}
use Rattle.hs_world.proofs.path.PathName.push.Goals as goal

pub invariant_of-self-2 : goal.invariant_of-self-2
invariant_of-self-2 c = ap are_names c.in_ok-push.ensures.ok ∙ names-push c.self.inside.names c.args.name c.self.invariant c.requires
