use Rattle.std.proofs.Common.{List, ℕ, length, take, ◌∙◌, ap, arith}
use Rattle.std.specs.Prelude.{codes, option_copied}
use Rattle.hs_view.proofs.Acting.{acts_as}
use Rattle.util_common.specs.Operands.{refused}
use Rattle.util_common.specs.declared.messages.Why.TheVariants.{ExtraOperand}
use Rattle.util_lines.specs.Uniquing.{files_uniqued, input_uniqued, second}
use Rattle.util_lines.proofs.Uniqued.{few_files, many_files}
use Rattle.util_lines.proofs.uniquing.uniq_files.Goals as goal

pub returns-then-as_slice-gt2 : goal.returns-then-as_slice-gt2
returns-then-as_slice-gt2 g c =
    acts_as g.B.Base.seen (refused (codes "uniq") ExtraOperand) (files_uniqued c.args.mode c.args.operands) c.args.view.now c.refuse.new.view c.refuse.result
    (λ u s. many_files c.args.mode c.as_slice.result.now c.args.operands u c.as_slice.ensures c.if-as_slice-gt2.true) c.refuse.ensures

pub returns : goal.returns
returns g c =
    let mode = c.args.mode in
    let operands = c.args.operands in
    let words = c.in_ok-words.words in
    acts_as g.B.Base.seen (input_uniqued mode c.split_at.result.0.now (option_copied c.second.result)) (files_uniqued mode operands) c.args.view.now c.uniq_input.new.view c.uniq_input.result
    (λ u s.
    few_files mode operands words c.split_at.result.0.now (option_copied c.second.result) u c.in_ok-words.ensures (c.split_at.ensures.front ∙ ap (take 1) c.as_slice-2.ensures)
    (c.second.ensures ∙ ap second c.as_slice-3.ensures) (omega (arith, ap (λ (xs : List (List ℕ)). length xs) c.as_slice.ensures))) c.uniq_input.ensures
