use Rattle.std.proofs.Common.{List, ℕ, true, subst}
use Rattle.std.specs.Prelude.{codes}
use Rattle.hs_world.specs.declared.effect.Effect.TheVariants.{Emit}
use Rattle.hs_world.specs.declared.effect.Fd.TheVariants.{Two}
use Rattle.hs_view.specs.Acts.{Acts, only}
use Rattle.hs_view.proofs.Acting.{acts_memory_on}
use Rattle.util_common.specs.Messages.{message_on}
use Rattle.util_lines.specs.Selecting.{found_by}
use Rattle.util_lines.proofs.selecting.refuse_operand.Goals as goal

pub returns-in_err-line : goal.returns-in_err-line
returns-in_err-line g c =
    acts_memory_on g.B.Base.seen (only (Emit Two (message_on (codes "grep") c.args.word.now c.args.why)) (found_by c.args.found.selected true)) c.args.view.now _ c.from_residual.ensures.0 c.from_residual.ensures.1

pub returns : goal.returns
returns g c =
    subst (λ (t : List ℕ). Acts g.B.Base.seen (only (Emit Two t) (found_by c.args.found.selected true)) c.args.view.now c.emit_found.new.view c.emit_found.result) c.in_ok-line.ensures c.emit_found.ensures
