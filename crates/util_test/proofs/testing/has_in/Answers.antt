use Rattle.std.proofs.Common.{sym, ap, false}
use Rattle.std.specs.Prelude.{Option}
use Rattle.hs_world.specs.Files.{entry_at}
use Rattle.hs_world.specs.Paths.{Path}
use Rattle.hs_world.specs.World.{WorldData}
use Rattle.hs_view.specs.Steps.{nothing}
use Rattle.hs_view.proofs.Acting.{acts_answer, acts_as}
use Rattle.util_test.specs.Testing.{entry_in, has}
use Rattle.util_test.proofs.Tested.{absent}
use Rattle.util_test.proofs.testing.has_in.Goals as goal

pub returns-in-None : goal.returns-in-None
returns-in-None g c =
    acts_answer g.B.Base.seen (λ (w : WorldData). nothing (has c.args.property (entry_in w.tree c.args.path)) w) c.args.view.now false
    (λ u s. absent c.args.property u c.args.path c.in-None.is)

pub returns-in-Some : goal.returns-in-Some
returns-in-Some g c =
    acts_as g.B.Base.seen (λ (w : WorldData). nothing (has c.args.property (entry_at w.tree c.in-Some.path)) w) (λ (w : WorldData). nothing (has c.args.property (entry_in w.tree c.args.path)) w) c.args.view.now c.has_at.new.view c.has_at.result
    (λ u s. ap (λ (o : Option Path). nothing (has c.args.property (entry_in u.tree o)) u) (sym c.in-Some.is)) c.has_at.ensures
