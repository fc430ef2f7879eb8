use Rattle.std.proofs.Common.{◌∙◌}
use Rattle.util_test.proofs.Numbered.{parsed}
use Rattle.util_test.proofs.number.number_in.Goals as goal

pub returns : goal.returns
returns c = c.ok.ensures.value ∙ parsed c.args.text.now c.parse.result c.parse.ensures.value.0
