use Rattle.std.proofs.Common.{◌≡◌, Bool, List, ℕ, sym, ◌∙◌, ap, subst}
use Rattle.std.specs.Prelude.{IfOk}
use Rattle.util_lines.specs.Fronts.{shown_lines}
use Rattle.util_lines.specs.Orders.{turned_where}
use Rattle.util_lines.specs.Splitting.{joined}
use Rattle.util_lines.proofs.arranging.join_turned.Goals as goal

pub returns-then-reversed : goal.returns-then-reversed
returns-then-reversed c =
    subst (λ (ls : List (List ℕ)). IfOk c.join_lines.result (λ out. out.items ≡ joined ls))
    (c.turn.ensures ∙ ap (λ (b : Bool). turned_where b (shown_lines c.args.lines.now)) (sym c.if-reversed.true)) c.join_lines.ensures

pub returns : goal.returns
returns c =
    subst (λ (ls : List (List ℕ)). IfOk c.join_lines-2.result (λ out. out.items ≡ joined ls))
    (ap (λ (b : Bool). turned_where b (shown_lines c.args.lines.now)) (sym c.if-reversed.false)) c.join_lines-2.ensures
