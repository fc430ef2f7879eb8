use Rattle.hs_world.specs.World.{WorldData}
use Rattle.hs_view.specs.Steps.{nothing}
use Rattle.hs_view.proofs.Acting.{acts_answer}
use Rattle.sh_arith.specs.Exec.{plain}
use Rattle.sh_sum.specs.Turns.{did}
use Rattle.sh_sum.specs.declared.turn.Turn.TheVariants.{On}
use Rattle.sh_sum.proofs.Doing.{plain_stops, plain_went}
use Rattle.sh_sum.proofs.turning.do_plain.Goals as goal

pub returns-in-Ok-clause-acts : goal.returns-in-Ok-clause-acts
returns-in-Ok-clause-acts g c =
    let d = plain c.args.instr.now c.args.values in
    acts_answer g.B.Base.seen (λ (w : WorldData). nothing (did d) w) c.args.view.now (On c.in-Ok.skipped c.plain.new.values) (λ u s. plain_went d c.in-Ok.skipped c.plain.new.values u c.in-Ok.ensures.does)

pub returns-in-Err-clause-acts : goal.returns-in-Err-clause-acts
returns-in-Err-clause-acts g c = plain_stops g.B.Base.seen c.in-Err.why c.plain.new.values (plain c.args.instr.now c.args.values) c.args.view.now c.stop.result c.in-Err.ensures.does c.stop.ensures.stops
