use Rattle.std.proofs.Common.{sym, ap, ◌∙◌}
use Rattle.std.specs.Prelude.{Option}
use Rattle.hs_world.specs.World.{WorldData}
use Rattle.hs_view.specs.Steps.{nothing}
use Rattle.hs_view.proofs.Acting.{acts_as, acts_memory_on}
use Rattle.util_common.specs.Operands.{refused}
use Rattle.util_common.specs.declared.messages.Why.TheVariants.{BadExpression}
use Rattle.util_test.specs.Testing.{holds, status_of, tested, told}
use Rattle.util_test.specs.declared.expression.Asked.{Asked}
use Rattle.util_test.proofs.testing.tested.Goals as goal

pub returns-in_err-asked : goal.returns-in_err-asked
returns-in_err-asked g c =
    acts_memory_on g.B.Base.seen (tested c.args.utility.now c.args.words.now) c.args.view.now _ c.from_residual.ensures.0 c.from_residual.ensures.1

pub returns-in-Some : goal.returns-in-Some
returns-in-Some g c =
    acts_as g.B.Base.seen (λ (w : WorldData). nothing (status_of (holds c.in-Some.asked w)) w) (tested c.args.utility.now c.args.words.now) c.args.view.now c.tell.new.view c.tell.result
    (λ u s. ap (λ (o : Option Asked). told c.args.utility.now o u) (sym c.in-Some.is ∙ c.in_ok-asked.ensures)) c.tell.ensures

pub returns-in-None : goal.returns-in-None
returns-in-None g c =
    acts_as g.B.Base.seen (refused c.args.utility.now BadExpression) (tested c.args.utility.now c.args.words.now) c.args.view.now c.refuse.new.view c.refuse.result
    (λ u s. ap (λ (o : Option Asked). told c.args.utility.now o u) (sym c.in-None.is ∙ c.in_ok-asked.ensures)) c.refuse.ensures
