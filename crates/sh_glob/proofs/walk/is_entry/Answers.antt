use Rattle.std.proofs.Common.{false, not, sym, ap}
use Rattle.std.specs.Prelude.{Option}
use Rattle.hs_world.specs.Files.{entry_at, is_absent}
use Rattle.hs_world.specs.Paths.{Path}
use Rattle.hs_world.specs.World.{WorldData}
use Rattle.hs_view.specs.Steps.{nothing}
use Rattle.hs_view.proofs.Acting.{acts_answer, acts_as}
use Rattle.sh_glob.specs.Places.{is_entry}
use Rattle.sh_glob.proofs.walk.is_entry.Goals as goal

pub returns-in-Some : goal.returns-in-Some
returns-in-Some g c =
    acts_as g.B.Base.seen (λ (w : WorldData). nothing (not (is_absent (entry_at w.tree c.in-Some.path))) w) (λ (w : WorldData). nothing (is_entry w.tree c.args.path) w) c.args.view.now c.has_entry.new.view c.has_entry.result
    (λ u s. ap (λ (o : Option Path). nothing (is_entry u.tree o) u) (sym c.in-Some.is)) c.has_entry.ensures

pub returns-in-None : goal.returns-in-None
returns-in-None g c =
    acts_answer g.B.Base.seen (λ (w : WorldData). nothing (is_entry w.tree c.args.path) w) c.args.view.now false (λ u s. ap (λ (o : Option Path). nothing (is_entry u.tree o) u) c.in-None.is)
