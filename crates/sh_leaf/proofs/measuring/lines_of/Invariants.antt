use Rattle.std.proofs.Common.{◌≡◌, ◌++◌, drop}
use Rattle.sh_leaf.specs.Expanding.{lines_of}
use Rattle.sh_leaf.proofs.measuring.lines_of.Given as goal

abbrev pub invariant-loop-text : goal.invariant-loop-text
invariant-loop-text l = l.lines ++ lines_of (drop l.text-index l.texts) ≡ lines_of l.texts
