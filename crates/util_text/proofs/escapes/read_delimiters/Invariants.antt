use Rattle.std.proofs.Common.{◌≡◌, ◌<◌, ◌+◌, length}
use Rattle.util_text.specs.Paste.{delimiters_from, delimiters_of}
use Rattle.util_text.proofs.Pasted.{behind}
use Rattle.util_text.proofs.escapes.read_delimiters.Given as goal

abbrev pub invariant-list : goal.invariant-list
invariant-list l = record {
  some : 0 < length l.rest + length l.items.items;
  read : delimiters_of l.fn.list ≡ behind l.items.items (delimiters_from l.rest);
}

abbrev pub decreases-list : goal.decreases-list
decreases-list l = length l.rest
