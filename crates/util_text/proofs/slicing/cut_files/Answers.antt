use Rattle.std.proofs.Common.{refl}
use Rattle.std.specs.Prelude.{codes}
use Rattle.util_common.specs.Operands.{none_yet, operands_written, or_input}
use Rattle.util_common.proofs.Filters.{filtered_status}
use Rattle.util_text.specs.Slicing.{cuts}
use Rattle.util_text.proofs.slicing.cut_files.Goals as goal

pub returns : goal.returns
returns g c = λ ranges s.
    filtered_status _ g.B.Base.seen (operands_written (codes "cut") (cuts c.args.cuts.items ranges) none_yet (or_input c.args.operands)) c.args.view.now c.filter_files.new.view c.filter_files.result
    (c.filter_files.ensures (cuts c.args.cuts.items ranges) (record { exact = ranges; stands = s; is = refl }))
