use Rattle.std.proofs.Common.{◌≡◌, ◌++◌, ◌∷◌, ◌≤◌, ◌+◌, ◌-◌, reverse, length}
use Rattle.hs_world.specs.Tables.{ends_from, ends_of}
use Rattle.hs_world.proofs.tables.ends.Given as goal

abbrev pub invariant-loop-descriptor : goal.invariant-loop-descriptor
invariant-loop-descriptor l = record {
  so_far : l.items.items ++ ends_from (10 - l.descriptor) l.descriptor (l.table ∷ reverse l.below) ≡ ends_of (l.table ∷ reverse l.below);
  count : length l.items.items + 1 ≡ l.descriptor;
  low : 1 ≤ l.descriptor;
  high : l.descriptor ≤ 10;
}

abbrev pub decreases-loop-descriptor : goal.decreases-loop-descriptor
decreases-loop-descriptor l = 10 - l.descriptor
