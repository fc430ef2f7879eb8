-- Steps as the code holds them, where names and parts are borrowed.
use Rattle.sh_spell.specs.Steps.{Step, token_step, value_step, part_step, list_step}
use Rattle.sh_spell.specs.declared.step.Step.{Step as Held}
use Rattle.sh_spell.specs.declared.step.Step.TheVariants as step

abbrev pub seen : Held → Step
seen (step.Token t) = token_step t
seen (step.Value x) = value_step x.now
seen (step.Part q) = part_step q.now
seen (step.List n) = list_step n
