use Rattle.std.proofs.Common.{◌≡◌, ◌+◌, ◌≤◌, min}
use Rattle.hs_world.specs.Files.{sum_of}
use Rattle.hs_world.proofs.tree.total.Given as goal

abbrev pub invariant-loop-entry : goal.invariant-loop-entry
invariant-loop-entry l = record {
  sum : min (l.sum + sum_of l.entry-iterator) 18446744073709551615 ≡ min (sum_of l.entries.entries) 18446744073709551615;
  small : l.sum ≤ 18446744073709551615;
}
