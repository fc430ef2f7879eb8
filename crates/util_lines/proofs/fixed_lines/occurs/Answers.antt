use Rattle.std.proofs.Common.{◌∙◌}
use Rattle.util_lines.proofs.Occurring.{found_occurs}
use Rattle.util_lines.proofs.fixed_lines.occurs.Goals as goal

pub returns : goal.returns
returns c = c.is_some.ensures ∙ found_occurs c.args.line.now c.args.pattern.now c.find.result c.find.ensures
