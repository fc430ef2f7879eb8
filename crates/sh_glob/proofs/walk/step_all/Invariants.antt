use Rattle.std.proofs.Common.{◌++◌, drop}
use Rattle.hs_world.specs.World.{WorldData}
use Rattle.hs_view.specs.Acts.{Loops}
use Rattle.hs_view.specs.Steps.{nothing}
use Rattle.sh_glob.specs.Places.{on_from_all, slashed}
use Rattle.sh_glob.proofs.walk.step_all.Given as goal

-- the places that are left
abbrev pub invariant-loop-from : goal.invariant-loop-from
invariant-loop-from g l =
    Loops g.B.Base.seen (λ (w : WorldData). nothing (on_from_all w.tree slashed l.part l.places) w) (λ (w : WorldData). nothing (l.all ++ on_from_all w.tree slashed l.part (drop l.from-index l.places)) w) l.fn.view l.view
