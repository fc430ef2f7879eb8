use Rattle.std.proofs.Common.{Bool, sym, ap, ◌∙◌}
use Rattle.std.specs.Prelude.{codes, if◌then◌else◌}
use Rattle.hs_view.proofs.Acting.{acts_as}
use Rattle.util_common.specs.Operands.{refused}
use Rattle.util_common.specs.declared.messages.Why.TheVariants.{ExtraOperand}
use Rattle.util_print.specs.Folder.{folder_written, pwd_of}
use Rattle.util_print.proofs.folder.write_for.Goals as goal

pub returns-then-has_words : goal.returns-then-has_words
returns-then-has_words g c =
    acts_as g.B.Base.seen (refused (codes "pwd") ExtraOperand) (pwd_of c.args.operands.now) c.args.view.now c.refuse.new.view c.refuse.result
    (λ u s. ap (λ (b : Bool). if b then refused (codes "pwd") ExtraOperand u else folder_written u) (sym c.if-has_words.true ∙ c.has_words.ensures)) c.refuse.ensures

pub returns : goal.returns
returns g c =
    acts_as g.B.Base.seen folder_written (pwd_of c.args.operands.now) c.args.view.now c.write_folder.new.view c.write_folder.result
    (λ u s. ap (λ (b : Bool). if b then refused (codes "pwd") ExtraOperand u else folder_written u) (sym c.if-has_words.false ∙ c.has_words.ensures)) c.write_folder.ensures
