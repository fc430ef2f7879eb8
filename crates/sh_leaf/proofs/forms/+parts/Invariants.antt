use Rattle.std.proofs.Common.{◌≡◌, drop}
use Rattle.std.specs.List.{list_all}
use Rattle.sh_leaf.specs.Built.{is_built_part}
use Rattle.sh_leaf.proofs.forms.+parts.Given as goal

abbrev pub invariant-are_built_parts-loop-i : goal.invariant-are_built_parts-loop-i
invariant-are_built_parts-loop-i l = list_all is_built_part (drop l.i l.parts) ≡ list_all is_built_part l.parts
