use Rattle.std.proofs.Common.{◌≡◌, sym, ap, refl, subst}
use Rattle.std.specs.Prelude.{Option}
use Rattle.hs_world.specs.Files.{entry_at}
use Rattle.hs_world.specs.Paths.{Path}
use Rattle.hs_world.specs.World.{WorldData}
use Rattle.hs_view.specs.Steps.{nothing}
use Rattle.hs_view.proofs.Acting.{acts_answer, acts_as}
use Rattle.util_common.specs.Operands.{content_in, content_of}
use Rattle.util_common.specs.declared.content.Content.TheVariants.{Refused}
use Rattle.util_common.specs.declared.messages.Why.TheVariants.{NoSuchFile}
use Rattle.util_common.proofs.content.content_in.Goals as goal

pub returns-in-Some : goal.returns-in-Some
returns-in-Some g c =
    acts_as g.B.Base.seen (λ (w : WorldData). nothing (content_of (entry_at w.tree c.in-Some.path)) w) (λ (w : WorldData). nothing (content_in w.tree c.args.path) w) c.args.view.now c.content_at.new.view c.content_at.result
    (λ u s. ap (λ (o : Option Path). nothing (content_in u.tree o) u) (sym c.in-Some.is)) c.content_at.ensures

pub returns-in-None : goal.returns-in-None
returns-in-None g c =
    acts_answer g.B.Base.seen (λ (w : WorldData). nothing (content_in w.tree c.args.path) w) c.args.view.now (Refused NoSuchFile) (λ u s. ap (λ (o : Option Path). nothing (content_in u.tree o) u) c.in-None.is)
