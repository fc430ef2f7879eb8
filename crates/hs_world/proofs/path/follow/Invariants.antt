use Rattle.std.proofs.Common.{◌≡◌, length}
use Rattle.hs_world.specs.Paths.{are_components, components, go_all}
use Rattle.hs_world.proofs.path.follow.Given as goal

abbrev pub invariant-loop-component : goal.invariant-loop-component
invariant-loop-component l = record {
  all : are_components (components l.rest) ≡ are_components (components l.fn.bytes);
  path : go_all l.at (components l.rest) ≡ go_all l.fn.start (components l.fn.bytes);
}

abbrev pub decreases-loop-component : goal.decreases-loop-component
decreases-loop-component l = length l.rest
