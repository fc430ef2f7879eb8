use Rattle.std.proofs.Common.{Bool, sym, ◌∙◌, ap}
use Rattle.util_lines.specs.Fronts.{shown_lines}
use Rattle.util_lines.specs.Orders.{kept_where}
use Rattle.util_lines.proofs.arranging.keep_where.Goals as goal

pub returns-then-not-unique : goal.returns-then-not-unique
returns-then-not-unique c = ap (λ (b : Bool). kept_where b c.args.by (shown_lines c.args.lines.now.items)) (sym c.if-not-unique.true)

pub returns : goal.returns
returns c = c.keep_first.ensures ∙ ap (λ (b : Bool). kept_where b c.args.by (shown_lines c.args.lines.now.items)) (sym c.if-not-unique.false)
