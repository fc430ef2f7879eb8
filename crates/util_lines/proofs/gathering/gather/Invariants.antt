use Rattle.std.proofs.Common.{drop}
use Rattle.hs_view.specs.Acts.{Loops}
use Rattle.util_lines.specs.Gathering.{none_yet, operands_gathered}
use Rattle.util_lines.proofs.gathering.gather.Given as goal

-- what was read so far, and the operands that are left
abbrev pub invariant-loop-word : goal.invariant-loop-word
invariant-loop-word g l =
    Loops g.B.Base.seen (operands_gathered l.reader.utility.now l.reader.bad none_yet l.words) (operands_gathered l.reader.utility.now l.reader.bad l.so_far (drop l.word-index l.words)) l.fn.view l.view
