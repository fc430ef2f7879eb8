use Rattle.std.proofs.Common.{◌≡◌, length}
use Rattle.std.specs.Prelude.{Some}
use Rattle.util_lines.specs.ByteSet.{before, set_from, set_of}
use Rattle.util_lines.proofs.byte_set.read_set.Given as goal

abbrev pub invariant-elements : goal.invariant-elements
invariant-elements l = set_of l.fn.word ≡ before (Some l.set.items) (set_from 0 l.rest)

abbrev pub decreases-elements : goal.decreases-elements
decreases-elements l = length l.rest
