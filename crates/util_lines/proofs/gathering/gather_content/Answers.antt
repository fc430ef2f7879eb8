use Rattle.std.proofs.Common.{sym, ap, ◌∙◌}
use Rattle.hs_view.specs.Steps.{nothing}
use Rattle.hs_view.proofs.Acting.{acts_answer, acts_as}
use Rattle.util_common.specs.declared.content.Content.{Content}
use Rattle.util_lines.specs.Gathering.{content_gathered, refused_gathered}
use Rattle.util_lines.specs.declared.gathering.Gathered.{Gathered}
use Rattle.util_lines.proofs.gathering.gather_content.Goals as goal

pub returns-in_ok-more-in-Bytes : goal.returns-in_ok-more-in-Bytes
returns-in_ok-more-in-Bytes g c =
    let reader = c.args.reader.now in
    acts_answer g.B.Base.seen (content_gathered reader.utility.now reader.bad c.args.so_far c.args.word.now c.args.content) c.args.view.now c.in_ok-more-in-Bytes.more
    (λ u s. ap (λ (x : Content). content_gathered reader.utility.now reader.bad c.args.so_far c.args.word.now x u) c.in-Bytes.is ∙ ap (λ (x : Gathered). nothing x u) (sym c.in_ok-more-in-Bytes.ensures))

pub returns-in-Refused : goal.returns-in-Refused
returns-in-Refused g c =
    let reader = c.args.reader.now in
    acts_as g.B.Base.seen (refused_gathered reader.utility.now reader.bad c.args.so_far c.args.word.now c.in-Refused.why) (content_gathered reader.utility.now reader.bad c.args.so_far c.args.word.now c.args.content) c.args.view.now
    c.refuse_operand.new.view c.refuse_operand.result (λ u s. ap (λ (x : Content). content_gathered reader.utility.now reader.bad c.args.so_far c.args.word.now x u) (sym c.in-Refused.is)) c.refuse_operand.ensures
