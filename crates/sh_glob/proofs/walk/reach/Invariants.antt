use Rattle.std.proofs.Common.{drop}
use Rattle.hs_world.specs.World.{WorldData}
use Rattle.hs_view.specs.Acts.{Loops}
use Rattle.hs_view.specs.Steps.{nothing}
use Rattle.sh_glob.specs.Places.{reached}
use Rattle.sh_glob.proofs.walk.reach.Given as goal

-- the components that are left
abbrev pub invariant-loop-part : goal.invariant-loop-part
invariant-loop-part g l =
    Loops g.B.Base.seen (λ (w : WorldData). nothing (reached w.tree l.parts l.fn.places) w) (λ (w : WorldData). nothing (reached w.tree (drop l.part-index l.parts) l.all) w) l.fn.view l.view
