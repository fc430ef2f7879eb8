use Rattle.std.proofs.Common.{◌≡◌, ◌+◌, ◌≤◌, false, drop}
use Rattle.util_text.specs.Counting.{newlines}
use Rattle.util_text.proofs.Words.{starts}
use Rattle.util_text.proofs.counting.count.Given as goal

abbrev pub invariant-bytes : goal.invariant-bytes
invariant-bytes l = record {
  lines_within : l.lines ≤ l.byte-index;
  words_within : l.words ≤ l.byte-index;
  lines : l.lines + newlines (drop l.byte-index l.text) ≡ newlines l.text;
  words : l.words + starts l.inside (drop l.byte-index l.text) ≡ starts false l.text;
}
