use Rattle.std.proofs.Common.{◌≡◌, ◌+◌, ◌*◌, length}
use Rattle.sh_spell.specs.Scripts.{each}
use Rattle.sh_spell.specs.Steps.{step_text}
use Rattle.sh_spell.proofs.script.+steps.Given as goal

abbrev pub invariant-write_steps-steps : goal.invariant-write_steps-steps
invariant-write_steps-steps l = each (step_text l.script l.levels) l.left l.out ≡ each (step_text l.script l.levels) l.fn.steps l.fn.out

abbrev pub decreases-write_steps-steps : goal.decreases-write_steps-steps
decreases-write_steps-steps l = length l.left

abbrev pub decreases-write_list : goal.decreases-write_list
decreases-write_list l = 3 * l.levels

abbrev pub decreases-write_part : goal.decreases-write_part
decreases-write_part l = 3 * l.levels

abbrev pub decreases-write_step : goal.decreases-write_step
decreases-write_step l = 3 * l.levels + 1

abbrev pub decreases-write_steps : goal.decreases-write_steps
decreases-write_steps l = 3 * l.levels + 2
