use Rattle.std.proofs.Common.{◌≡◌, ◌++◌, drop}
use Rattle.util_print.specs.Shown.{bad_words, taken, written}
use Rattle.util_print.proofs.printing.print_round.Given as goal

-- what is printed, and the words that are left, for the parts that are left
abbrev pub invariant-parts : goal.invariant-parts
invariant-parts l = record {
  out : l.printed.out.items ++ written (drop l.part-index l.parts) l.left ≡ l.fn.printed.out.items ++ written l.parts l.words;
  bad : l.printed.bad ++ bad_words (drop l.part-index l.parts) l.left ≡ l.fn.printed.bad ++ bad_words l.parts l.words;
  left : drop (taken (drop l.part-index l.parts)) l.left ≡ drop (taken l.parts) l.words;
}
