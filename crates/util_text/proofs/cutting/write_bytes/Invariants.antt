use Rattle.std.proofs.Common.{◌≡◌, ℕ, ◌++◌, true, length}
use Rattle.std.specs.List.{flat_map}
use Rattle.util_text.specs.Buffer.{Keeps}
use Rattle.util_text.specs.Spans.{is_apart}
use Rattle.util_text.proofs.Picked.{piece}
use Rattle.util_text.proofs.cutting.write_bytes.Given as goal

abbrev pub invariant-spans : goal.invariant-spans
invariant-spans l = record {
  kept : Keeps l.fn.out.items l.out.items;
  apart : (end : ℕ) × (is_apart end l.left ≡ true);
  written : l.out.items ++ flat_map (λ s. piece l.line s) l.left ≡ l.fn.out.items ++ flat_map (λ s. piece l.line s) l.spans;
}

abbrev pub decreases-spans : goal.decreases-spans
decreases-spans l = length l.left
