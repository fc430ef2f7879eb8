use Rattle.std.proofs.Common.{ℕ}
use Rattle.hs_world.specs.declared.effect.Effect.TheVariants.{Emit}
use Rattle.hs_view.specs.Acts.{only}
use Rattle.hs_view.proofs.Acting.{acts_answering, acts_answering_halt, acts_on}
use Rattle.util_common.specs.Operands.{emitted}
use Rattle.util_lines.proofs.selecting.emit_found.Goals as goal

pub returns-in_err-emit : goal.returns-in_err-emit
returns-in_err-emit g c =
    let h = c.in_err-emit.field-0.0 in
    acts_on g.B.Base.seen (only (Emit c.args.fd c.args.text) c.args.found) c.args.view.now c.emit.new.view h _ c.from_residual.ensures.0 c.from_residual.ensures.1
    (acts_answering_halt g.B.Base.seen (λ (status : ℕ). c.args.found) (emitted c.args.fd c.args.text 0) c.args.view.now c.emit.new.view h c.in_err-emit.ensures)

pub returns : goal.returns
returns g c =
    acts_answering g.B.Base.seen (λ (status : ℕ). c.args.found) (emitted c.args.fd c.args.text 0) c.args.view.now c.emit.new.view c.in_ok-emit.field-0 c.in_ok-emit.ensures
