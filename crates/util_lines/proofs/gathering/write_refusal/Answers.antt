use Rattle.std.proofs.Common.{List, ℕ, subst}
use Rattle.hs_world.specs.declared.effect.Fd.TheVariants.{Two}
use Rattle.hs_view.specs.Acts.{Acts}
use Rattle.hs_view.proofs.Acting.{acts_memory_on}
use Rattle.util_common.specs.Messages.{message_on}
use Rattle.util_common.specs.Operands.{emitted}
use Rattle.util_lines.proofs.gathering.write_refusal.Goals as goal

pub returns-in_err-text : goal.returns-in_err-text
returns-in_err-text g c =
    acts_memory_on g.B.Base.seen (emitted Two (message_on c.args.reader.now.utility.now c.args.word.now c.args.why) c.args.reader.now.bad) c.args.view.now _ c.from_residual.ensures.0 c.from_residual.ensures.1

pub returns : goal.returns
returns g c = subst (λ (t : List ℕ). Acts g.B.Base.seen (emitted Two t c.args.reader.now.bad) c.args.view.now c.emit.new.view c.emit.result) c.in_ok-text.ensures c.emit.ensures
