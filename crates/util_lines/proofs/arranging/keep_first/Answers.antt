use Rattle.std.proofs.Common.{List, ℕ, ◌∙◌, ap, rules}
use Rattle.std.proofs.lemmas.Fn.{dedup_same}
use Rattle.std.specs.Ordering.{is_eq}
use Rattle.util_lines.specs.Fronts.{shown_lines}
use Rattle.util_lines.specs.Orders.{order}
use Rattle.util_lines.proofs.Lined.{map_dedup}
use Rattle.util_lines.proofs.arranging.keep_first.Goals as goal
use denote.Ref.{Bor}

pub returns : goal.returns
returns c =
    let now : Bor (List ℕ) → List ℕ = λ b. b.now in
    let E = λ (x y : List ℕ). is_eq (order c.args.by x y) in
    ap shown_lines (dedup_same _ (λ (x y : Bor (List ℕ)). E x.now y.now) _ (λ x y b f' x' y' k. search rules) _ _ c.dedup_by.ensures.filtered)
    ∙ map_dedup now E c.args.lines.now.items
