use Rattle.std.proofs.Common.{refl, sym, ◌∙◌}
use Rattle.std.specs.Prelude.{codes}
use Rattle.hs_world.specs.World.{WorldData}
use Rattle.hs_view.specs.Acts.{answering}
use Rattle.hs_view.proofs.Acting.{acts_as}
use Rattle.util_common.specs.Operands.{none_yet, operands_written, or_input, refused, status_of}
use Rattle.util_common.specs.declared.messages.Why.TheVariants.{ExtraOperand}
use Rattle.util_common.proofs.Filters.{filtered_status}
use Rattle.util_text.specs.Tailing.{tails, tails_written}
use Rattle.util_text.proofs.Tailed.{several_tails, single_tail}
use Rattle.util_text.proofs.tailing.tail_file.Goals as goal

pub returns-then-is_several : goal.returns-then-is_several
returns-then-is_several g c = λ exact s.
    acts_as g.B.Base.seen (refused (codes "tail") ExtraOperand) (tails_written exact c.args.operands) c.args.view.now c.refuse.new.view c.refuse.result
    (λ u p. several_tails exact c.args.operands u (sym c.is_several.ensures ∙ c.if-is_several.true)) c.refuse.ensures

pub returns : goal.returns
returns g c = λ exact s.
    let m = operands_written (codes "tail") (tails exact) none_yet (or_input c.args.operands) in
    acts_as g.B.Base.seen (λ (w : WorldData). answering status_of (m w)) (tails_written exact c.args.operands) c.args.view.now c.filter_files.new.view c.filter_files.result
    (λ u p. single_tail exact c.args.operands u (sym c.is_several.ensures ∙ c.if-is_several.false))
    (filtered_status _ g.B.Base.seen m c.args.view.now c.filter_files.new.view c.filter_files.result (c.filter_files.ensures (tails exact) (record { exact = exact; stands = s; is = refl })))
