use Rattle.std.proofs.Common.{◌≡◌, drop}
use Rattle.std.specs.FinMap as map
use Rattle.hs_overlay.specs.Names.{with_names}
use Rattle.hs_overlay.proofs.folders.set_of.Given as goal

abbrev pub invariant-loop-name : goal.invariant-loop-name
invariant-loop-name l = with_names (drop l.name-index l.names) l.set ≡ with_names l.names map.empty
