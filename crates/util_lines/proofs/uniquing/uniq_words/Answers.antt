use Rattle.std.proofs.Common.{sym, ◌∙◌, ap}
use Rattle.std.specs.Prelude.{Option, Ok, codes}
use Rattle.hs_view.proofs.Acting.{acts_as}
use Rattle.util_common.specs.Operands.{refused}
use Rattle.util_common.specs.declared.messages.Why.TheVariants.{Excluding}
use Rattle.util_lines.specs.Uniquing.{uniq_by, uniq_of}
use Rattle.util_lines.specs.declared.runs.Mode.{Mode}
use Rattle.util_lines.proofs.uniquing.uniq_words.Goals as goal

pub returns-in-None : goal.returns-in-None
returns-in-None g c =
    acts_as g.B.Base.seen (refused (codes "uniq") Excluding) (uniq_by (Ok c.args.words)) c.args.view.now c.refuse.new.view c.refuse.result
    (λ u s. ap (λ (o : Option Mode). uniq_of o c.args.words.operands u) (sym c.in-None.is ∙ c.mode_by-mode.ensures)) c.refuse.ensures
