use Rattle.std.proofs.Common.{◌≡◌, ◌++◌, length}
use Rattle.sh_spell.specs.Scripts.{words_list, front_list}
use Rattle.sh_spell.specs.Steps.{words_steps}
use Rattle.sh_spell.proofs.commands.push_words_with.Given as goal

abbrev pub invariant-words : goal.invariant-words
invariant-words l = (l.steps ++ words_steps l.left l.waiting.redirs.now ≡ l.fn.steps ++ words_steps l.fn.words l.fn.redirs.redirs.now) × (l.next ≡ words_list l.left) × (l.waiting.list ≡ front_list l.waiting.redirs.now)

abbrev pub decreases-words : goal.decreases-words
decreases-words l = length l.left
