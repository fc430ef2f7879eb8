use Rattle.std.proofs.Common.{sym, ap}
use Rattle.std.specs.Prelude.{Option, codes}
use Rattle.hs_world.specs.Paths.{Path}
use Rattle.hs_world.specs.declared.effect.Fd.TheVariants.{Two}
use Rattle.hs_view.proofs.Acting.{acts_as}
use Rattle.util_common.specs.Messages.{message_on}
use Rattle.util_common.specs.Operands.{emitted}
use Rattle.util_common.specs.declared.messages.Why.TheVariants.{BadName}
use Rattle.util_lines.specs.Filing.{path_written}
use Rattle.util_lines.proofs.filing.write_path.Goals as goal

pub returns-in-None : goal.returns-in-None
returns-in-None g c =
    let output = c.args.output.now in
    let word = c.args.word.now in
    acts_as g.B.Base.seen (emitted Two (message_on (codes "uniq") word BadName) 1) (path_written output.text word c.args.output.now.status c.args.path) c.args.view.now c.write_message.new.view c.write_message.result
    (λ u s. ap (λ (o : Option Path). path_written output.text word c.args.output.now.status o u) (sym c.in-None.is)) c.write_message.ensures
