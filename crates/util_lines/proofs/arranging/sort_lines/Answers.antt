use Rattle.std.proofs.Common.{◌≡◌, List, ℕ, ◌∙◌, ap, rules}
use Rattle.std.proofs.lemmas.Cmp.{on_total}
use Rattle.std.proofs.lemmas.Fn.{always_returns_same}
use Rattle.std.proofs.lemmas.List.Sorted.{ranks_by}
use Rattle.std.proofs.lemmas.Result.{on_ok_weaker}
use Rattle.std.specs.Ordering.{is_lt, on}
use Rattle.util_lines.specs.Fronts.{shown_lines}
use Rattle.util_lines.specs.Orders.{order}
use Rattle.util_lines.proofs.Lined.{map_sorted}
use Rattle.util_lines.proofs.Stable.{sorted_is}
use Rattle.util_lines.proofs.Totals.{order_total}
use Rattle.util_lines.proofs.arranging.sort_lines.Goals as goal
use denote.Ref.{Bor}

pub returns : goal.returns
returns c =
    let now : Bor (List ℕ) → List ℕ = λ b. b.now in
    let R = order c.args.by in
    let lt = λ (a b : Bor (List ℕ)). is_lt (R a.now b.now) in
    let ranks = ranks_by (order_total c.args.by) now in
    let stable = c.sort_by.ensures.stable lt ranks (always_returns_same _ _ _ (λ a r f k. search rules)) in
    on_ok_weaker c.sort_by.result
    (λ sorted.
    ap shown_lines (sorted_is (on now R) (on_total now (order_total c.args.by)) c.args.lines.now.items c.sort_by.new.self.items (sorted lt ranks (always_returns_same _ _ _ (λ a r f k. search rules))) stable)
    ∙ map_sorted now R c.args.lines.now.items)
    c.sort_by.ensures.sorted
