use Rattle.std.proofs.Common.{◌≡◌, drop}
use Rattle.hs_overlay.specs.Overlay.{no_overlay, over_all}
use Rattle.hs_view.proofs.tabled.done.Given as goal

abbrev pub invariant-loop-effect : goal.invariant-loop-effect
invariant-loop-effect l = over_all (drop l.effect-index l.effects) l.overlay ≡ over_all l.effects (no_overlay l.fn.ends l.fn.routes)
