use Rattle.std.proofs.Common.{◌≡◌, length}
use Rattle.sh_spell.specs.Scripts.{words_list}
use Rattle.sh_spell.proofs.numbers.words_list.Given as goal

abbrev pub invariant-words : goal.invariant-words
invariant-words l = words_list l.left ≡ words_list l.fn.words

abbrev pub decreases-words : goal.decreases-words
decreases-words l = length l.left
