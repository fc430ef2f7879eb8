use Rattle.std.proofs.Common.{◌≡◌, ◌≤◌, ◌+◌, ◌-◌, length}
use Rattle.hs_overlay.specs.Routing.{ends_over}
use Rattle.hs_overlay.proofs.Gathered.{behind}
use Rattle.hs_overlay.proofs.routing.Routing.ends.Given as goal

abbrev pub invariant-loop-descriptor : goal.invariant-loop-descriptor
invariant-loop-descriptor l = record {
  so_far : behind l.items.items (ends_over (10 - l.descriptor) l.descriptor l.self) ≡ ends_over 9 1 l.self;
  count : length l.items.items + 1 ≡ l.descriptor;
  low : 1 ≤ l.descriptor;
  high : l.descriptor ≤ 10;
}

abbrev pub decreases-loop-descriptor : goal.decreases-loop-descriptor
decreases-loop-descriptor l = 10 - l.descriptor
