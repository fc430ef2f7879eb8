use Rattle.std.proofs.Common.{drop}
use Rattle.hs_view.specs.Acts.{Loops}
use Rattle.util_print.specs.Printf.{told}
use Rattle.util_print.proofs.command.tell.Given as goal

-- the words that are left, with the status so far
abbrev pub invariant-words : goal.invariant-words
invariant-words g l = Loops g.B.Base.seen (told l.bad l.fn.text 0) (told (drop l.word-index l.bad) l.fn.text l.status) l.fn.view l.view
