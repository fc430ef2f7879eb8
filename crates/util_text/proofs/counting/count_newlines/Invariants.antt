use Rattle.std.proofs.Common.{◌≡◌, ◌+◌}
use Rattle.std.specs.Slice.Iter.{chunks_rest, chunks_size}
use Rattle.util_text.specs.Counting.{newlines}
use Rattle.util_text.proofs.counting.count_newlines.Given as goal

abbrev pub invariant-pieces : goal.invariant-pieces
invariant-pieces l = record {
  next : goal.iterator-pieces.can_next l.piece-iterator;
  finite : goal.iterator-pieces.is_finite l.piece-iterator;
  size : chunks_size l.piece-iterator ≡ 224;
  counted : l.lines + newlines (chunks_rest l.piece-iterator) ≡ newlines l.text;
}
