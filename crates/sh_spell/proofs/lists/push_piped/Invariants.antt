use Rattle.std.proofs.Common.{◌≡◌, ◌++◌, drop}
use Rattle.sh_spell.specs.Steps.{all_steps, piped_steps}
use Rattle.sh_spell.proofs.lists.push_piped.Given as goal

abbrev pub invariant-loop-stage : goal.invariant-loop-stage
invariant-loop-stage l = l.steps ++ all_steps (piped_steps l.script) (drop l.stage-index l.stages) ≡ l.fn.steps ++ all_steps (piped_steps l.script) l.stages
