use Rattle.std.proofs.Common.{◌≡◌, ◌++◌, length}
use Rattle.sh_spell.specs.Scripts.{front_list, going, waiting}
use Rattle.sh_spell.specs.Steps.{all_steps, redir_steps}
use Rattle.sh_spell.proofs.redirs.push_going.Given as goal

abbrev pub invariant-redirs : goal.invariant-redirs
invariant-redirs l = (l.steps ++ all_steps redir_steps (going l.next l.left.redirs.now) ≡ l.fn.steps ++ all_steps redir_steps (going l.next l.fn.waiting.redirs.now))
    × (waiting l.next l.left.redirs.now ≡ waiting l.next l.fn.waiting.redirs.now)
    × (l.left.list ≡ front_list l.left.redirs.now)

abbrev pub decreases-redirs : goal.decreases-redirs
decreases-redirs l = length l.left.redirs.now
