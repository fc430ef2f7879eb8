use Rattle.std.proofs.Common.{◌≡◌, ◌+◌, ◌<◌, ◌^◌, drop}
use Rattle.hs_view.specs.Size.{capped, routes_size}
use Rattle.hs_view.proofs.size.routes_size.Given as goal

abbrev pub invariant-loop-route : goal.invariant-loop-route
invariant-loop-route l = record {
  sum : capped (l.size + routes_size (drop l.route-index l.routes)) ≡ capped (routes_size l.routes);
  fits : l.size < 2 ^ 128;
}
