use Rattle.std.proofs.Common.{◌≡◌, List, ℕ, ◌∙◌, ap, subst}
use Rattle.std.specs.Prelude.{IfOk}
use Rattle.util_lines.specs.Fronts.{shown_lines}
use Rattle.util_lines.specs.Orders.{all_lines, kept_where, order, sorted, turned_where}
use Rattle.util_lines.specs.Splitting.{joined}
use Rattle.util_lines.specs.declared.ordering.By.{By}
use Rattle.util_lines.proofs.arranging.sort_texts.Goals as goal

pub returns : goal.returns
returns c =
    let sorting = c.args.sorting in
    let by = c.compared_by-by.result in
    subst (λ (ls : List (List ℕ)). IfOk c.join_turned.result (λ out. out.items ≡ joined (turned_where sorting.reverse ls)))
    (ap shown_lines c.as_mut_slice.ensures.value
    ∙ c.keep_where.ensures
    ∙ ap (λ (ls : List (List ℕ)). kept_where sorting.unique by ls) (c.in_ok-sort_lines.ensures ∙ ap (λ (ls : List (List ℕ)). sorted (order by) ls) c.in_ok-lines.ensures)
    ∙ ap (λ (b : By). kept_where sorting.unique b (sorted (order b) (all_lines c.args.texts.now))) c.compared_by-by.ensures) c.join_turned.ensures
