use Rattle.std.proofs.Common.{drop, false}
use Rattle.hs_view.specs.Acts.{Loops}
use Rattle.util_lines.specs.Selecting.{found_by, words_searched}
use Rattle.util_lines.proofs.selecting.search_words.Given as goal

-- the operands that are left
abbrev pub invariant-loop-word : goal.invariant-loop-word
invariant-loop-word g l =
    Loops g.B.Base.seen (words_searched l.search l.several (found_by false false) l.words) (words_searched l.search l.several l.found (drop l.word-index l.words)) l.fn.view l.view
