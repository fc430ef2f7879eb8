use Rattle.std.proofs.Common.{◌≡◌, ◌++◌, length}
use Rattle.sh_pattern.specs.Items.{items_from, items_of, IsClosings}
use Rattle.sh_pattern.proofs.reading.compile.Given as goal

abbrev pub invariant-items : goal.invariant-items
invariant-items l = record {
  read : items_of l.fn.field ≡ l.items.items ++ items_from 0 l.rest;
  table : IsClosings l.closed_rest l.rest;
}

abbrev pub decreases-items : goal.decreases-items
decreases-items l = length l.rest
