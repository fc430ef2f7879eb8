use Rattle.std.proofs.Common.{◌≡◌, ◌++◌, drop}
use Rattle.sh_spell.specs.Steps.{all_steps, join_steps}
use Rattle.sh_spell.proofs.lists.push_joined.Given as goal

abbrev pub invariant-loop-join : goal.invariant-loop-join
invariant-loop-join l = l.steps ++ all_steps (join_steps l.script) (drop l.join-index l.rest) ≡ l.fn.steps ++ all_steps (join_steps l.script) l.rest
