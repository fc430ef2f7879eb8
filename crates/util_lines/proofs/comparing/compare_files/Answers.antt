use Rattle.std.proofs.Common.{arith}
use Rattle.std.specs.Prelude.{codes}
use Rattle.hs_view.proofs.Acting.{acts_as}
use Rattle.util_common.specs.Operands.{refused}
use Rattle.util_common.specs.declared.messages.Why.TheVariants.{ExtraOperand, MissingOperand}
use Rattle.util_lines.specs.Comparing.{files_compared, two_compared}
use Rattle.util_lines.proofs.Compared.{few_files, many_files, two_files}
use Rattle.util_lines.proofs.comparing.compare_files.Goals as goal

pub returns-in-empty : goal.returns-in-empty
returns-in-empty g c =
    acts_as g.B.Base.seen (refused (codes "comm") MissingOperand) (files_compared c.args.columns c.args.operands.now) c.args.view.now c.refuse.new.view c.refuse.result
    (λ u s. few_files c.args.columns c.args.operands.now u (omega arith)) c.refuse.ensures

pub returns-in-len2 : goal.returns-in-len2
returns-in-len2 g c =
    acts_as g.B.Base.seen (two_compared c.args.columns c.args.operands.now) (files_compared c.args.columns c.args.operands.now) c.args.view.now c.compare_two.new.view c.compare_two.result
    (λ u s. two_files c.args.columns c.args.operands.now u (omega arith) (omega arith)) c.compare_two.ensures

pub returns-in_default : goal.returns-in_default
returns-in_default g c =
    acts_as g.B.Base.seen (refused (codes "comm") ExtraOperand) (files_compared c.args.columns c.args.operands.now) c.args.view.now c.refuse-in_default.new.view c.refuse-in_default.result
    (λ u s. many_files c.args.columns c.args.operands.now u (omega arith)) c.refuse-in_default.ensures
