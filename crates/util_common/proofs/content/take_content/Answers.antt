use Rattle.std.proofs.Common.{sym, ap, ◌∙◌}
use Rattle.hs_world.specs.Paths.{resolve}
use Rattle.hs_world.specs.World.{WorldData}
use Rattle.hs_view.specs.Steps.{nothing}
use Rattle.hs_view.proofs.Acting.{acts_as}
use Rattle.util_common.specs.Operands.{content_in, content_taken, input_taken, is_dash}
use Rattle.util_common.proofs.Filters.{taken_input, taken_named}
use Rattle.util_common.proofs.content.take_content.Goals as goal

pub returns-then-is_dash : goal.returns-then-is_dash
returns-then-is_dash g c =
    acts_as g.B.Base.seen input_taken (content_taken c.args.word.now) c.args.view.now c.take_input.new.view c.take_input.result
    (λ u s. taken_input c.args.word.now u (ap is_dash (sym c.as_slice.ensures) ∙ sym c.is_dash.ensures ∙ c.if-is_dash.true)) c.take_input.ensures

pub returns : goal.returns
returns g c =
    acts_as g.B.Base.seen (λ (w : WorldData). nothing (content_in w.tree (resolve w.cwd c.args.word.now)) w) (content_taken c.args.word.now) c.args.view.now c.content_named.new.view c.content_named.result
    (λ u s. taken_named c.args.word.now u (ap is_dash (sym c.as_slice.ensures) ∙ sym c.is_dash.ensures ∙ c.if-is_dash.false)) c.content_named.ensures
