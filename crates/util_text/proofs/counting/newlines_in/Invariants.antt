use Rattle.std.proofs.Common.{◌≡◌, ◌+◌, ◌≤◌, drop}
use Rattle.util_text.specs.Counting.{newlines}
use Rattle.util_text.proofs.counting.newlines_in.Given as goal

abbrev pub invariant-bytes : goal.invariant-bytes
invariant-bytes l = record {
  within : l.lines ≤ l.byte-index;
  counted : l.lines + newlines (drop l.byte-index l.piece) ≡ newlines l.piece;
}
