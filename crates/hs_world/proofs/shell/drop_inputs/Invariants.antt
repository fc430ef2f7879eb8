use Rattle.std.proofs.Common.{◌≡◌, ◌-◌, drop, reverse, length}
use Rattle.hs_world.specs.Shells.{deep}
use Rattle.hs_world.proofs.shell.drop_inputs.Given as goal

abbrev pub invariant-loop-below : goal.invariant-loop-below
invariant-loop-below l = record {
  input : deep (length l.below.items - l.inputs) l.input (reverse l.below.items) ≡ deep (length l.fn.below.items - l.inputs) l.fn.input (reverse l.fn.below.items);
  below : drop (length l.below.items - l.inputs) (reverse l.below.items) ≡ drop (length l.fn.below.items - l.inputs) (reverse l.fn.below.items);
}

abbrev pub decreases-loop-below : goal.decreases-loop-below
decreases-loop-below l = length l.below.items
