use Rattle.std.proofs.Common.{◌≡◌, ◌+◌, ℕ, List, ◌++◌, ap, ◌∙◌, arith}
use Rattle.std.specs.Slice.Iter.{chunks_rest}
use Rattle.util_text.specs.Counting.{newlines}
use Rattle.util_text.proofs.Newlines.{newlines_append, newlines_within}
use Rattle.util_text.proofs.counting.count_newlines.Goals as goal

-- a piece's newlines and those of the rest are those of both
parted : (lines piece : ℕ) (front back all text : List ℕ) → all ≡ front ++ back → piece ≡ newlines front → lines + newlines all ≡ newlines text → lines + piece + newlines back ≡ newlines text
parted lines piece front back all text parts is counted = omega (arith, ap newlines parts ∙ newlines_append front back, is, counted)

pub overflow_add-lines : goal.overflow_add-lines
overflow_add-lines c =
    let steps = c.in-Some.ensures.steps in
    let done = parted c.pieces.lines c.newlines_in.result c.in-Some.piece.now (chunks_rest c.next.new.self) _ c.args.text.now steps.1.0 c.newlines_in.ensures c.pieces.invariant.counted in
    omega (arith, done, newlines_within c.args.text.now, c.type_inv.text)

pub pieces-preserved : goal.pieces-preserved
pieces-preserved c =
    let steps = c.in-Some.ensures.steps in
    record {
      next = omega (arith, steps.0, c.pieces.invariant.size);
      finite = tt;
      size = steps.0 ∙ c.pieces.invariant.size;
      counted = parted c.pieces.lines c.newlines_in.result c.in-Some.piece.now (chunks_rest c.next.new.self) _ c.args.text.now steps.1.0 c.newlines_in.ensures c.pieces.invariant.counted;
    }
