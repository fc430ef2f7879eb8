use Rattle.std.proofs.Common.{◌≡◌, ◌+◌, drop}
use Rattle.sh_leaf.specs.Expanding.{list_length}
use Rattle.sh_leaf.proofs.measuring.are_long.Given as goal

abbrev pub invariant-loop-text : goal.invariant-loop-text
invariant-loop-text l = l.left + list_length l.texts ≡ 1024 + list_length (drop l.text-index l.texts)
