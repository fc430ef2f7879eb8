use Rattle.std.proofs.Common.{◌≡◌, drop}
use Rattle.sh_machine.specs.Enclosing.{list_frame}
use Rattle.sh_machine.proofs.told.list_frame.Given as goal

abbrev pub invariant-loop-depth : goal.invariant-loop-depth
invariant-loop-depth l = list_frame (drop l.depth l.below) ≡ list_frame l.below
