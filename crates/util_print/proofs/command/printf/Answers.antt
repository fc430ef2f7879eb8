use Rattle.std.proofs.Common.{List, ℕ, ap, ◌∙◌}
use Rattle.hs_view.proofs.Acting.{acts_as}
use Rattle.util_print.specs.Printf.{printf, printf_of, without_dashes}
use Rattle.util_print.proofs.command.printf.Goals as goal

pub returns : goal.returns
returns g c =
    acts_as g.B.Base.seen (printf_of c.without_dashes.result.now) (printf c.args.args.now) c.args.view.now c.print_of.new.view c.print_of.result
    (λ u s. ap (λ (ws : List (List ℕ)). printf_of ws u) (c.without_dashes.ensures ∙ ap without_dashes c.as_slice.ensures))
    c.print_of.ensures
