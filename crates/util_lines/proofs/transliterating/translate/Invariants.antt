use Rattle.std.proofs.Common.{◌≡◌, ℕ, map, take}
use Rattle.std.specs.Prelude.{None, slice_index_or, unwrap_or}
use Rattle.util_lines.proofs.Plain.{Bytes}
use Rattle.util_lines.proofs.transliterating.translate.Given as goal

abbrev pub invariant-bytes : goal.invariant-bytes
invariant-bytes l = record {
  images : l.out.items ≡ map (λ (b : ℕ). unwrap_or (slice_index_or l.images b None) b) (take l.byte-index l.text);
  bytes : Bytes l.out.items;
}
