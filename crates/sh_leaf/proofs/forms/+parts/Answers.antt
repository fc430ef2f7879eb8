use Rattle.std.proofs.Common.{sym, ap, ◌∙◌}
use Rattle.std.specs.List.{list_all}
use Rattle.sh_leaf.specs.Built.{is_built_part}
use Rattle.sh_leaf.proofs.Nested.{arith_built, double_built, param_built}
use Rattle.sh_leaf.proofs.forms.+parts.Goals as goal

pub is_built_part-returns-in-Double : goal.is_built_part-returns-in-Double
is_built_part-returns-in-Double t c = c.are_built_parts.ensures ∙ ap (list_all is_built_part) c.as_slice.ensures ∙ sym (double_built c.in-Double.parts) ∙ ap is_built_part (sym c.in-Double.is)

pub is_built_part-returns-in-Param : goal.is_built_part-returns-in-Param
is_built_part-returns-in-Param t c = c.is_built_operand.ensures ∙ sym (param_built c.in-Param.name c.in-Param.op c.in-Param.colon c.in-Param.word) ∙ ap is_built_part (sym c.in-Param.is)

pub is_built_part-returns-in-Arith : goal.is_built_part-returns-in-Arith
is_built_part-returns-in-Arith t c = c.is_built_word.ensures ∙ sym (arith_built c.in-Arith.word) ∙ ap is_built_part (sym c.in-Arith.is)
