use Rattle.std.proofs.Common.{◌++◌, drop}
use Rattle.hs_world.specs.World.{WorldData}
use Rattle.hs_view.specs.Acts.{Loops}
use Rattle.hs_view.specs.Steps.{nothing}
use Rattle.sh_glob.specs.Paths.{paths_done, paths_of}
use Rattle.sh_glob.proofs.fields.all_paths.Given as goal

-- the fields that are left
abbrev pub invariant-loop-field : goal.invariant-loop-field
invariant-loop-field g l =
    Loops g.B.Base.seen (paths_done l.fields) (λ (w : WorldData). nothing (l.all ++ paths_of w (drop l.field-index l.fields)) w) l.fn.view l.view
