use Rattle.std.proofs.Common.{◌≡◌, length}
use Rattle.std.specs.FinMap as map
use Rattle.hs_world.specs.Names.{name_cmp}
use Rattle.hs_world.proofs.Stacks.{inserted}
use Rattle.hs_world.proofs.world.table_of.Given as goal

abbrev pub invariant-loop-name : goal.invariant-loop-name
invariant-loop-name l = inserted l.table l.vars.items ≡ map.from_entries {R = name_cmp} l.fn.vars.items

abbrev pub decreases-loop-name : goal.decreases-loop-name
decreases-loop-name l = length l.vars.items
