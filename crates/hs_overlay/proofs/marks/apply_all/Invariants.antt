use Rattle.std.proofs.Common.{◌≡◌}
use Rattle.hs_overlay.specs.Names.{with_changes}
use Rattle.hs_overlay.proofs.marks.apply_all.Given as goal

abbrev pub invariant-loop-name : goal.invariant-loop-name
invariant-loop-name l = with_changes l.name-iterator l.set ≡ with_changes l.changes.entries l.fn.set
