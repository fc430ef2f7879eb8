use Rattle.std.proofs.Common.{List, ℕ, sym, ap, ◌∙◌}
use Rattle.std.specs.Prelude.{Option, codes, option_copied}
use Rattle.hs_view.proofs.Acting.{acts_as}
use Rattle.util_common.specs.Operands.{refused}
use Rattle.util_common.specs.declared.messages.Why.TheVariants.{BadExpression}
use Rattle.util_test.specs.Testing.{bracket, bracketed, bracketed_told, tested}
use Rattle.util_test.proofs.testing.bracket.Goals as goal

pub returns-in-Some : goal.returns-in-Some
returns-in-Some g c =
    acts_as g.B.Base.seen (tested (codes "[") c.in-Some.words.now) (bracket c.args.args.now) c.args.view.now c.tested.new.view c.tested.result
    (λ u s. ap (λ (o : Option (List (List ℕ))). bracketed_told o u) (sym (ap (λ o. option_copied o) c.in-Some.is) ∙ c.bracketed.ensures ∙ ap bracketed c.as_slice.ensures)) c.tested.ensures

pub returns-in-None : goal.returns-in-None
returns-in-None g c =
    acts_as g.B.Base.seen (refused (codes "[") BadExpression) (bracket c.args.args.now) c.args.view.now c.refuse.new.view c.refuse.result
    (λ u s. ap (λ (o : Option (List (List ℕ))). bracketed_told o u) (sym (ap (λ o. option_copied o) c.in-None.is) ∙ c.bracketed.ensures ∙ ap bracketed c.as_slice.ensures)) c.refuse.ensures
