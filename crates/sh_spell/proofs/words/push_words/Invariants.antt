use Rattle.std.proofs.Common.{◌≡◌, ◌++◌, drop}
use Rattle.sh_spell.specs.Steps.{all_steps, word_steps}
use Rattle.sh_spell.proofs.words.push_words.Given as goal

abbrev pub invariant-loop-word : goal.invariant-loop-word
invariant-loop-word l = l.steps ++ all_steps word_steps (drop l.word-index l.words) ≡ l.fn.steps ++ all_steps word_steps l.words
