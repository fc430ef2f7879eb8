use Rattle.std.proofs.Common.{Bool, List, ℕ, sym, ap, ◌∙◌}
use Rattle.std.specs.Prelude.{Some, codes}
use Rattle.hs_world.specs.World.{WorldData}
use Rattle.hs_world.specs.declared.effect.Fd.TheVariants.{One}
use Rattle.hs_view.proofs.Acting.{acts_answer, acts_as, acts_memory_on}
use Rattle.util_common.specs.Operands.{emitted}
use Rattle.util_text.specs.Tallying.{sum_written}
use Rattle.util_text.specs.Wc.{counts_line}
use Rattle.util_text.proofs.tallying.write_sum.Goals as goal

pub returns-then-not-several : goal.returns-then-not-several
returns-then-not-several g c =
    acts_answer g.B.Base.seen (sum_written c.args.chosen.now c.args.several c.args.sum.now c.args.status) c.args.view.now c.args.status
    (λ u s. ap (λ (b : Bool). sum_written c.args.chosen.now b c.args.sum.now c.args.status u) c.if-not-several.true)

pub returns : goal.returns
returns g c =
    let chosen = c.args.chosen.now in
    let sum = c.args.sum.now in
    acts_as g.B.Base.seen (emitted One c.in_ok-line.line c.args.status) (sum_written chosen c.args.several sum c.args.status) c.args.view.now c.emit.new.view c.emit.result
    (λ u s.
    ap (λ (t : List ℕ). emitted One t c.args.status u) c.in_ok-line.ensures
    ∙ ap (λ (b : Bool). sum_written chosen b sum c.args.status u) (sym c.if-not-several.false)) c.emit.ensures
