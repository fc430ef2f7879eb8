use Rattle.std.proofs.Common.{◌≡◌, drop}
use Rattle.sh_spell.specs.Scripts.{parts_list}
use Rattle.sh_spell.proofs.numbers.+lists.Given as goal

abbrev pub invariant-parts_list-loop-part : goal.invariant-parts_list-loop-part
invariant-parts_list-loop-part l = parts_list (drop l.part-index l.parts) ≡ parts_list l.parts
