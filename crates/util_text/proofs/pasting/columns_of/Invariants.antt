use Rattle.std.proofs.Common.{◌≡◌, ◌++◌, drop}
use Rattle.util_text.specs.Pasting.{columns}
use Rattle.util_text.proofs.pasting.columns_of.Given as goal

abbrev pub invariant-loop-word : goal.invariant-loop-word
invariant-loop-word l = l.columns.items ++ columns (drop l.word-index l.words) l.left ≡ columns l.words l.contents
