use Rattle.std.proofs.Common.{arith}
use Rattle.std.specs.Prelude.{option_copied}
use Rattle.hs_view.proofs.Acting.{acts_answer}
use Rattle.util_lines.specs.Uniquing.{runs_written}
use Rattle.util_lines.proofs.Uniqued.{no_content}
use Rattle.util_lines.proofs.uniquing.write_input.Goals as goal

pub returns-in-empty : goal.returns-in-empty
returns-in-empty g c =
    let input = c.args.input.now in
    let output = option_copied c.args.target in
    acts_answer g.B.Base.seen (runs_written c.args.mode output input) c.args.view.now input.status
    (λ u s. no_content c.args.mode output c.as_slice.result.now input.contents input.status u c.as_slice.ensures (omega arith))
