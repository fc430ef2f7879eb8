use Rattle.std.proofs.Common.{◌≡◌, ◌++◌, drop}
use Rattle.sh_spell.specs.Steps.{all_steps, redir_steps}
use Rattle.sh_spell.proofs.redirs.push_redirs.Given as goal

abbrev pub invariant-loop-redir : goal.invariant-loop-redir
invariant-loop-redir l = l.steps ++ all_steps redir_steps (drop l.redir-index l.redirs) ≡ l.fn.steps ++ all_steps redir_steps l.redirs
