use Rattle.std.proofs.Common.{refl, sym, ap}
use Rattle.std.specs.Prelude.{codes}
use Rattle.util_common.specs.Operands.{none_yet, operands_written, or_input}
use Rattle.util_common.proofs.Filters.{filtered_status}
use Rattle.util_text.specs.Head.{heads, is_several}
use Rattle.util_text.proofs.heading.head_files.Goals as goal

pub returns : goal.returns
returns g c = λ n s.
    let text = heads n (is_several c.args.operands) in
    filtered_status _ g.B.Base.seen (operands_written (codes "head") text none_yet (or_input c.args.operands)) c.args.view.now c.filter_files.new.view c.filter_files.result
    (c.filter_files.ensures text (record { exact = n; stands = s; is = ap (heads n) (sym c.is_several-several.ensures); first = refl }))
