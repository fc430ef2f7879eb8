use Rattle.std.proofs.Common.{ℕ, ap, sym}
use Rattle.std.specs.Prelude.{Option}
use Rattle.hs_view.proofs.Acting.{acts_answer, acts_as}
use Rattle.sh_sum.specs.Turns.{one_done, turn_done}
use Rattle.sh_sum.specs.declared.turn.Turn.TheVariants.{On}
use Rattle.sh_sum.proofs.Doing.{skips_on}
use Rattle.sh_sum.proofs.turning.turn.Goals as goal

pub returns-in-Some-clause-acts : goal.returns-in-Some-clause-acts
returns-in-Some-clause-acts g c =
    acts_answer g.B.Base.seen (turn_done c.args.instr.now c.args.skipped c.args.values) c.args.view.now (On c.skip_one.result c.args.values)
    (λ u s. skips_on c.args.instr.now c.args.skipped c.skip_one.result c.in-Some.depth c.args.values u c.in-Some.is c.skip_one.ensures.skips)

pub returns-in-None-clause-acts : goal.returns-in-None-clause-acts
returns-in-None-clause-acts g c =
    acts_as g.B.Base.seen (one_done c.args.instr.now c.args.values) (turn_done c.args.instr.now c.args.skipped c.args.values) c.args.view.now c.one.new.view c.one.result
    (λ u s. ap (λ (o : Option ℕ). turn_done c.args.instr.now o c.args.values u) (sym c.in-None.is)) c.one.ensures.acts
