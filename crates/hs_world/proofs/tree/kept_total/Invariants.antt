use Rattle.std.proofs.Common.{◌≡◌, ◌+◌, ◌<◌, ◌^◌}
use Rattle.hs_world.specs.Sizes.{capped, entries_size}
use Rattle.hs_world.proofs.tree.kept_total.Given as goal

abbrev pub invariant-loop-path : goal.invariant-loop-path
invariant-loop-path l = record {
  sum : capped (l.sum + entries_size l.path-iterator) ≡ capped (entries_size l.entries.entries);
  fits : l.sum < 2 ^ 128;
}
