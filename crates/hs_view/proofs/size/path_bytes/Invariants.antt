use Rattle.std.proofs.Common.{◌≡◌, ◌+◌, ◌<◌, ◌^◌, drop}
use Rattle.hs_view.specs.Size.{capped, path_bytes}
use Rattle.hs_view.proofs.size.path_bytes.Given as goal

abbrev pub invariant-loop-name : goal.invariant-loop-name
invariant-loop-name l = record {
  sum : capped (l.size + path_bytes (drop l.name-index l.names)) ≡ capped (path_bytes l.names);
  fits : l.size < 2 ^ 128;
}
