use Rattle.std.proofs.Common.{◌≡◌, ◌++◌, drop}
use Rattle.sh_spell.specs.Steps.{all_steps, arm_steps}
use Rattle.sh_spell.proofs.compounds.push_arms.Given as goal

abbrev pub invariant-loop-arm : goal.invariant-loop-arm
invariant-loop-arm l = l.steps ++ all_steps arm_steps (drop l.arm-index l.arms) ≡ l.fn.steps ++ all_steps arm_steps l.arms
