use Rattle.std.proofs.Common.{List, ℕ, ap, ◌∙◌, subst}
use Rattle.hs_world.specs.declared.effect.Fd.TheVariants.{One}
use Rattle.hs_view.specs.Acts.{Acts}
use Rattle.hs_view.proofs.Acting.{acts_memory_on}
use Rattle.util_common.specs.Operands.{emitted}
use Rattle.util_print.specs.Echo.{echo, echo_line}
use Rattle.util_print.proofs.echoing.echo.Goals as goal

pub returns-in_err-line : goal.returns-in_err-line
returns-in_err-line g c =
    acts_memory_on g.B.Base.seen (echo c.args.args.now) c.args.view.now _ c.from_residual.ensures.0 c.from_residual.ensures.1

pub returns : goal.returns
returns g c =
    subst (λ (x : List ℕ). Acts g.B.Base.seen (emitted One x 0) c.args.view.now c.emit.new.view c.emit.result) (c.in_ok-line.ensures ∙ ap echo_line c.as_slice.ensures) c.emit.ensures
