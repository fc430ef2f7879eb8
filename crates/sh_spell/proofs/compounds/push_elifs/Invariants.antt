use Rattle.std.proofs.Common.{◌≡◌, ◌++◌, drop}
use Rattle.sh_spell.specs.Steps.{all_steps, elif_steps}
use Rattle.sh_spell.proofs.compounds.push_elifs.Given as goal

abbrev pub invariant-loop-branch : goal.invariant-loop-branch
invariant-loop-branch l = l.steps ++ all_steps elif_steps (drop l.branch-index l.branches) ≡ l.fn.steps ++ all_steps elif_steps l.branches
