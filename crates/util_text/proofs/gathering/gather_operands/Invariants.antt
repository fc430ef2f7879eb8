use Rattle.std.proofs.Common.{drop}
use Rattle.hs_view.specs.Acts.{Loops}
use Rattle.util_text.specs.Gathering.{none_gathered, operands_gathered}
use Rattle.util_text.proofs.gathering.gather_operands.Given as goal

-- the operands that are left
abbrev pub invariant-loop-word : goal.invariant-loop-word
invariant-loop-word g l =
    Loops g.B.Base.seen (operands_gathered l.utility none_gathered l.words) (operands_gathered l.utility l.so_far (drop l.word-index l.words)) l.fn.view l.view
