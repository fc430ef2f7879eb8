use Rattle.std.proofs.Common.{refl}
use Rattle.std.specs.Prelude.{codes}
use Rattle.util_common.specs.Operands.{none_yet, operands_written}
use Rattle.util_common.proofs.Filters.{filtered_status}
use Rattle.util_text.specs.Pasting.{serials}
use Rattle.util_text.specs.Turns.{turns}
use Rattle.util_text.proofs.pasting.paste_each.Goals as goal

pub returns : goal.returns
returns g c =
    let ds = turns c.args.delimiters in
    filtered_status _ g.B.Base.seen (operands_written (codes "paste") (serials ds) none_yet c.args.words.now) c.args.view.now c.filter_operands.new.view c.filter_operands.result (c.filter_operands.ensures (serials ds) refl)
