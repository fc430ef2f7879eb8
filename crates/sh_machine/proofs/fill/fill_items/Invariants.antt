use Rattle.std.proofs.Common.{◌≡◌, ◌++◌, length, map}
use Rattle.sh_machine.proofs.fill.fill_items.Given as goal

abbrev pub invariant-loop-item : goal.invariant-loop-item
invariant-loop-item g l = l.done ++ map (g.T.Fill.filled l.bodies) l.left ≡ map (g.T.Fill.filled l.fn.bodies) l.fn.items

abbrev pub decreases-loop-item : goal.decreases-loop-item
decreases-loop-item g l = length l.left
