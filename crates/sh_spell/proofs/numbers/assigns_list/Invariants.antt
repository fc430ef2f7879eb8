use Rattle.std.proofs.Common.{◌≡◌, length}
use Rattle.sh_spell.specs.Scripts.{assigns_list}
use Rattle.sh_spell.proofs.numbers.assigns_list.Given as goal

abbrev pub invariant-assigns : goal.invariant-assigns
invariant-assigns l = assigns_list l.left l.words ≡ assigns_list l.fn.assigns l.words

abbrev pub decreases-assigns : goal.decreases-assigns
decreases-assigns l = length l.left
