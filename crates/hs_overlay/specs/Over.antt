-- When a state is what effects made of a base's.
use Rattle.std.specs.Prelude.{◌≡◌, ◌∷◌, ◌++◌, unwrap_or}
use Rattle.hs_world.specs.World.{WorldData, all_tables}
use Rattle.hs_overlay.specs.Files.{FilesOver}
use Rattle.hs_overlay.specs.Overlay.{OverlayData}
use Rattle.hs_overlay.specs.Routing.{RoutingOver}
use Rattle.hs_overlay.specs.Scope.{ScopeOver}
use Rattle.hs_overlay.specs.Shells.{ShellsOver}

pub record Over (o : OverlayData) (b w : WorldData) : Type 0 where
  pub scope : ScopeOver o.scope b w.vars w.funcs w.params w.cwd w.opts w.kept
  pub zero : w.zero ≡ b.zero
  pub status : w.status ≡ unwrap_or o.status b.status
  pub shells : ShellsOver o.shells b w.shells
  pub inputs : w.input ∷ w.inputs ≡ o.inputs.pushed ++ unwrap_or o.inputs.base b.input ∷ b.inputs
  pub routing : RoutingOver o.routing b (all_tables w)
  pub files : FilesOver o.files o.routing.loose b.tree w.tree
