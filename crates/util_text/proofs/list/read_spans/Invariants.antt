use Rattle.std.proofs.Common.{◌≡◌, suc, zero, ℕ, length, Option, None, Some, List}
use Rattle.std.specs.Prelude.{option_copied}
use Rattle.util_text.specs.Places.{is_separator}
use Rattle.util_text.proofs.Ranges.{behind_all, items_left, left_len}
use Rattle.util_text.proofs.list.read_spans.Given as goal

abbrev pub invariant-items : goal.invariant-items
invariant-items l = items_left (λ b. is_separator b) (Some l.fn.word) ≡ behind_all l.spans.items (items_left (λ b. is_separator b) (option_copied l.rest))

abbrev pub decreases-items : goal.decreases-items
decreases-items l = left_len (option_copied l.rest)
