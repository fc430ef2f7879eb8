use Rattle.std.proofs.Common.{◌≡◌, ℕ, Bool, ◌++◌, ◌<◌, ◌≤◌, length}
use Rattle.std.specs.Prelude.{◌==◌, option_copied}
use Rattle.std.specs.List.{join_with_byte}
use Rattle.util_text.specs.Buffer.{Keeps}
use Rattle.util_text.specs.Cut.{chosen, fields}
use Rattle.util_text.specs.Parts.{parts_behind}
use Rattle.util_text.specs.Spans.{Reach, in_spans}
use Rattle.util_text.proofs.Walked.{Agrees, Within, fields_len, joined_behind}
use Rattle.util_text.proofs.fielding.write_fields.Given as goal

abbrev pub invariant-fields : goal.invariant-fields
invariant-fields l = record {
  kept : Keeps l.fn.out.items l.out.items;
  some : 0 < l.place;
  within : Within (length l.line) l.place (option_copied l.rest);
  reach : Reach l.place l.left;
  same : (k : ℕ) → l.place ≤ k → in_spans l.left k ≡ in_spans l.spans k;
  written : (test : ℕ → Bool) → Agrees test l.spans →
      l.out.items ++ joined_behind l.delimiter l.behind (chosen test l.place (parts_behind (λ b. b == l.delimiter) (option_copied l.rest)))
      ≡ l.fn.out.items ++ join_with_byte l.delimiter (chosen test 1 (fields l.delimiter l.line));
}

abbrev pub decreases-fields : goal.decreases-fields
decreases-fields l = fields_len (option_copied l.rest)
