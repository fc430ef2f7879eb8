use Rattle.std.proofs.Common.{◌≡◌, ◌++◌, ◌≤◌, length, take}
use Rattle.std.specs.Map.{keys_of}
use Rattle.hs_world.proofs.table.are_names.Given as goal

abbrev pub invariant-loop-known : goal.invariant-loop-known
invariant-loop-known l = record {
  so_far : take l.k l.names ++ keys_of l.known-iterator ≡ keys_of l.entries.entries;
  within : l.k ≤ length l.names;
}
