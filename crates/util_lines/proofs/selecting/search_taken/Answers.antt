use Rattle.hs_world.specs.declared.effect.Effect.TheVariants.{Emit}
use Rattle.hs_world.specs.declared.effect.Fd.TheVariants.{Two}
use Rattle.std.proofs.Common.{true, sym, ap}
use Rattle.std.specs.Prelude.{codes}
use Rattle.hs_view.specs.Acts.{only}
use Rattle.hs_view.proofs.Acting.{acts_as}
use Rattle.util_common.specs.Messages.{message_on}
use Rattle.util_common.specs.declared.content.Content.{Content}
use Rattle.util_common.specs.declared.content.Content.TheVariants.{Bytes}
use Rattle.util_lines.specs.Selecting.{content_searched, found_by}
use Rattle.util_lines.proofs.selecting.search_taken.Goals as goal

pub returns-in-Bytes : goal.returns-in-Bytes
returns-in-Bytes g c =
    acts_as g.B.Base.seen (content_searched c.args.search.now c.args.several c.args.word.now c.args.found (Bytes c.in-Bytes.bytes)) (content_searched c.args.search.now c.args.several c.args.word.now c.args.found c.args.content)
    c.args.view.now c.search_content.new.view c.search_content.result (λ u s. ap (λ (x : Content). content_searched c.args.search.now c.args.several c.args.word.now c.args.found x u) (sym c.in-Bytes.is)) c.search_content.ensures

pub returns-in-Refused : goal.returns-in-Refused
returns-in-Refused g c =
    acts_as g.B.Base.seen (only (Emit Two (message_on (codes "grep") c.args.word.now c.in-Refused.why)) (found_by c.args.found.selected true)) (content_searched c.args.search.now c.args.several c.args.word.now c.args.found c.args.content)
    c.args.view.now c.refuse_operand.new.view c.refuse_operand.result (λ u s. ap (λ (x : Content). content_searched c.args.search.now c.args.several c.args.word.now c.args.found x u) (sym c.in-Refused.is)) c.refuse_operand.ensures
