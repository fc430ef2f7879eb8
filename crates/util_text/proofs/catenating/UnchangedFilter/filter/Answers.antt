use Rattle.std.proofs.Common.{sym, ap}
use Rattle.util_common.specs.Operands.{Writer}
use Rattle.util_text.proofs.catenating.UnchangedFilter.filter.Goals as goal

pub returns-clause-text : goal.returns-clause-text
returns-clause-text c = λ text before e. ap (λ (f : Writer). f before c.args._word.now c.args.content) (sym e)

pub returns-clause-behind : goal.returns-clause-behind
returns-clause-behind c = λ text before e. e
