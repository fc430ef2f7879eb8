use Rattle.std.proofs.Common.{◌≡◌, ◌++◌, drop}
use Rattle.sh_spell.specs.Steps.{all_steps, more_pattern_steps}
use Rattle.sh_spell.proofs.compounds.push_more_patterns.Given as goal

abbrev pub invariant-loop-pattern : goal.invariant-loop-pattern
invariant-loop-pattern l = l.steps ++ all_steps more_pattern_steps (drop l.pattern-index l.patterns) ≡ l.fn.steps ++ all_steps more_pattern_steps l.patterns
