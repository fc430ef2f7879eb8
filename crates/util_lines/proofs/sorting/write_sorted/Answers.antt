use Rattle.std.proofs.Common.{List, ℕ, ◌∙◌, ap, subst}
use Rattle.hs_world.specs.declared.effect.Fd.TheVariants.{One}
use Rattle.hs_view.specs.Acts.{Acts}
use Rattle.util_common.specs.Operands.{emitted}
use Rattle.util_lines.specs.Orders.{sort}
use Rattle.util_lines.proofs.sorting.write_sorted.Goals as goal

pub returns : goal.returns
returns g c =
    let read = c.args.read.now in
    subst (λ (t : List ℕ). Acts g.B.Base.seen (emitted One t read.status) c.args.view.now c.emit.new.view c.emit.result)
    (c.in_ok-text.ensures ∙ ap (λ (xs : List (List ℕ)). sort c.args.sorting xs) c.as_slice.ensures) c.emit.ensures
