use Rattle.std.proofs.Common.{◌≡◌, length}
use Rattle.sh_spell.specs.Layout.{onto, source_of}
use Rattle.sh_spell.proofs.tokens.spell_tokens.Given as goal

abbrev pub invariant-tokens : goal.invariant-tokens
invariant-tokens l = onto l.left l.sheet ≡ source_of l.fn.tokens

abbrev pub decreases-tokens : goal.decreases-tokens
decreases-tokens l = length l.left
