use Rattle.std.proofs.Common.{List, ℕ, [], drop}
use Rattle.hs_view.specs.Acts.{Loops}
use Rattle.util_common.specs.Operands.{Writer, none_yet, operands_written, progress_of}
use Rattle.util_common.proofs.each.filter_operands.Given as goal

-- what was read so far, and the operands that are left
abbrev pub invariant-loop-word : goal.invariant-loop-word
invariant-loop-word g l =
    (text : Writer) → g.F.Filter.writes l.fn.filter text []
    → (contents : List (List ℕ)) × g.F.Filter.writes l.filter text contents
    × Loops g.B.Base.seen (operands_written l.utility text none_yet l.words) (operands_written l.utility text (progress_of contents l.status) (drop l.word-index l.words)) l.fn.view l.view
