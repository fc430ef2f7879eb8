use Rattle.std.proofs.Common.{◌≡◌, ◌++◌, length}
use Rattle.util_print.specs.Rounds.{left_bad, left_text}
use Rattle.util_print.proofs.printing.print_rest.Given as goal

abbrev pub invariant-rounds : goal.invariant-rounds
invariant-rounds l = record {
  out : l.printed.out.items ++ left_text l.parts l.left ≡ l.fn.printed.out.items ++ left_text l.parts l.words;
  bad : l.printed.bad ++ left_bad l.parts l.left ≡ l.fn.printed.bad ++ left_bad l.parts l.words;
}

abbrev pub decreases-rounds : goal.decreases-rounds
decreases-rounds l = length l.left
