use Rattle.std.proofs.Common.{◌≡◌, ◌++◌, length}
use Rattle.sh_spell.specs.Scripts.{assigns_list, front_list}
use Rattle.sh_spell.specs.Steps.{assigns_steps}
use Rattle.sh_spell.proofs.commands.push_assigns_with.Given as goal

abbrev pub invariant-assigns : goal.invariant-assigns
invariant-assigns l = (l.steps ++ assigns_steps l.left l.words l.waiting.redirs.now ≡ l.fn.steps ++ assigns_steps l.fn.assigns l.words l.fn.redirs.redirs.now) × (l.next ≡ assigns_list l.left l.words) × (l.waiting.list ≡ front_list l.waiting.redirs.now)

abbrev pub decreases-assigns : goal.decreases-assigns
decreases-assigns l = length l.left
