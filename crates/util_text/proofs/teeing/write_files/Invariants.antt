use Rattle.std.proofs.Common.{drop}
use Rattle.hs_view.specs.Acts.{Loops}
use Rattle.util_text.specs.Teeing.{files_written}
use Rattle.util_text.proofs.teeing.write_files.Given as goal

-- the files that are left
abbrev pub invariant-loop-word : goal.invariant-loop-word
invariant-loop-word g l =
    Loops g.B.Base.seen (files_written l.copied.append l.copied.text l.status l.words) (files_written l.copied.append l.copied.text l.so_far (drop l.word-index l.words)) l.fn.view l.view
