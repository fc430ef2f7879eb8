use Rattle.std.proofs.Common.{List, ℕ, sym, ap}
use Rattle.std.specs.Prelude.{Option, option_copied}
use Rattle.hs_world.specs.declared.effect.Fd.TheVariants.{One}
use Rattle.hs_view.proofs.Acting.{acts_as}
use Rattle.util_common.specs.Operands.{emitted}
use Rattle.util_lines.specs.Uniquing.{text_written}
use Rattle.util_lines.proofs.uniquing.write_text.Goals as goal
use denote.Ref.{Bor}

pub returns-in-None : goal.returns-in-None
returns-in-None g c =
    let output = c.args.output in
    acts_as g.B.Base.seen (emitted One output.text output.status) (text_written (option_copied c.args.target) output.text output.status) c.args.view.now c.emit.new.view c.emit.result
    (λ u s. ap (λ (o : Option (Bor (List ℕ))). text_written (option_copied o) output.text output.status u) (sym c.in-None.is)) c.emit.ensures
