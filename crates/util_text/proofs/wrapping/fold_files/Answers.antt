use Rattle.std.proofs.Common.{refl}
use Rattle.std.specs.Prelude.{codes}
use Rattle.util_common.specs.Operands.{none_yet, operands_written, or_input}
use Rattle.util_common.proofs.Filters.{filtered_status}
use Rattle.util_text.specs.Wrapping.{folds}
use Rattle.util_text.proofs.wrapping.fold_files.Goals as goal

pub returns : goal.returns
returns g c = λ n s.
    filtered_status _ g.B.Base.seen (operands_written (codes "fold") (folds n) none_yet (or_input c.args.operands)) c.args.view.now c.filter_files.new.view c.filter_files.result
    (c.filter_files.ensures (folds n) (record { exact = n; stands = s; is = refl }))
