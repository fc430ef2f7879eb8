use Rattle.std.proofs.Common.{List, ℕ, ◌≡◌, sym, ap, subst}
use Rattle.std.specs.Prelude.{IfOk}
use Rattle.hs_view.proofs.Keeping.{ok_all}
use Rattle.util_common.specs.Operands.{Writer}
use Rattle.util_text.proofs.tailing.TailsFilter.filter.Goals as goal

pub returns-clause-text : goal.returns-clause-text
returns-clause-text c = λ text before h.
    subst (λ (x : List ℕ). IfOk c.tail_part.result (λ out. out ≡ x)) (ap (λ (f : Writer). f before c.args._word.now c.args.content) (sym h.is)) (c.tail_part.ensures h.exact h.stands)

pub returns-clause-behind : goal.returns-clause-behind
returns-clause-behind c = λ text before h. ok_all c.tail_part.result h
