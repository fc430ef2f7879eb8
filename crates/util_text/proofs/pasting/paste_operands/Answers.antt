use Rattle.std.proofs.Common.{Bool, sym, ap, ◌∙◌}
use Rattle.std.specs.Prelude.{codes}
use Rattle.hs_view.proofs.Acting.{acts_as}
use Rattle.util_common.specs.Operands.{refused}
use Rattle.util_common.specs.declared.messages.Why.TheVariants.{MissingOperand}
use Rattle.util_text.specs.Pasting.{columns_written, lines_written, operands_pasted, serials_written}
use Rattle.util_text.specs.Turns.{turns}
use Rattle.util_text.proofs.Sided.{no_operand, some_operand}
use Rattle.util_text.proofs.pasting.paste_operands.Goals as goal

pub returns-then-is_empty : goal.returns-then-is_empty
returns-then-is_empty g c =
    let words = c.args.words.now in
    let ds = turns c.args.delimiters in
    acts_as g.B.Base.seen (refused (codes "paste") MissingOperand) (operands_pasted c.args.apart ds words) c.args.view.now c.refuse.new.view c.refuse.result
    (λ u s. no_operand c.args.apart ds words u (sym c.is_empty.ensures ∙ c.if-is_empty.true)) c.refuse.ensures

pub returns-then-apart : goal.returns-then-apart
returns-then-apart g c =
    let words = c.args.words.now in
    let ds = turns c.args.delimiters in
    acts_as g.B.Base.seen (serials_written ds words) (operands_pasted c.args.apart ds words) c.args.view.now c.paste_each.new.view c.paste_each.result
    (λ u s. ap (λ (b : Bool). lines_written b ds words u) (sym c.if-apart.true) ∙ some_operand c.args.apart ds words u (sym c.is_empty.ensures ∙ c.if-is_empty.false)) c.paste_each.ensures

pub returns : goal.returns
returns g c =
    let words = c.args.words.now in
    let ds = turns c.args.delimiters in
    acts_as g.B.Base.seen (columns_written ds words) (operands_pasted c.args.apart ds words) c.args.view.now c.paste_columns.new.view c.paste_columns.result
    (λ u s. ap (λ (b : Bool). lines_written b ds words u) (sym c.if-apart.false) ∙ some_operand c.args.apart ds words u (sym c.is_empty.ensures ∙ c.if-is_empty.false)) c.paste_columns.ensures
