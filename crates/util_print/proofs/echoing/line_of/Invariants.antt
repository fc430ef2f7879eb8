use Rattle.std.proofs.Common.{◌≡◌, ◌++◌, drop}
use Rattle.std.specs.Prelude.{cond}
use Rattle.util_print.specs.Echo.{joined, spaced}
use Rattle.util_print.proofs.echoing.line_of.Given as goal

abbrev pub invariant-loop-word : goal.invariant-loop-word
invariant-loop-word l = l.line ++ cond l.first (joined (drop l.word-index l.words)) (spaced (drop l.word-index l.words)) ≡ joined l.words
