use Rattle.std.proofs.Common.{◌≡◌, ◌++◌, drop}
use Rattle.std.specs.Prelude.{map}
use Rattle.sh_spell.specs.Steps.{part_step}
use Rattle.sh_spell.proofs.words.push_parts.Given as goal

abbrev pub invariant-loop-part : goal.invariant-loop-part
invariant-loop-part l = l.steps ++ map part_step (drop l.part-index l.parts) ≡ l.fn.steps ++ map part_step l.parts
