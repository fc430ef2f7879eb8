use Rattle.std.proofs.Common.{◌≡◌, drop}
use Rattle.util_text.specs.Pasting.{input_in}
use Rattle.util_text.proofs.pasting.input_in.Given as goal

abbrev pub invariant-loop-word : goal.invariant-loop-word
invariant-loop-word l = input_in (drop l.word-index l.words) l.left ≡ input_in l.words l.contents
