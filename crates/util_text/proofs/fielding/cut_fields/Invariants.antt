use Rattle.std.proofs.Common.{◌≡◌, List, ◌++◌, length}
use Rattle.std.specs.List.{flat_map}
use Rattle.util_text.specs.Buffer.{Keeps}
use Rattle.util_text.specs.Cut.{cut_fields, fields_of_line}
use Rattle.util_text.specs.Lines.{lines}
use Rattle.util_text.specs.Places.{Range, selects}
use Rattle.util_text.specs.Selected.{Selects}
use Rattle.util_text.proofs.fielding.cut_fields.Given as goal

abbrev pub invariant-lines : goal.invariant-lines
invariant-lines l = record {
  kept : Keeps l.fn.out.items l.out.items;
  written : (ranges : List Range) → Selects l.selection ranges →
      l.out.items ++ flat_map (λ line. fields_of_line (λ place. selects ranges place) l.delimiter l.only line) (lines l.rest)
      ≡ l.fn.out.items ++ cut_fields (λ place. selects ranges place) l.delimiter l.only l.fn.text;
}

abbrev pub decreases-lines : goal.decreases-lines
decreases-lines l = length l.rest
