use Rattle.std.proofs.Common.{ap, sym, ◌∙◌}
use Rattle.hs_world.specs.Paths.{parent}
use Rattle.hs_world.proofs.Trees.{parent-push}
use Rattle.hs_world.proofs.path.PathName.parent.Goals as goal

pub returns-in-Some : goal.returns-in-Some
returns-in-Some c = sym (parent-push c.in-Some.front.now c.in-Some.field-0-0.now) ∙ ap parent (sym c.in-Some.ensures.cases.0 ∙ c.as_slice-names.ensures ∙ c.self.view_is)
