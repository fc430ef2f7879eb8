use Rattle.std.proofs.Common.{◌≡◌, ap, of_z, rules, sym, to_z, w64, ◌∙◌}
use Rattle.hs_view.proofs.Acting.{acts_answer, acts_as}
use Rattle.sh_arith.specs.Value.{gives}
use Rattle.sh_sum.specs.Turns.{store_done, stored}
use Rattle.sh_sum.specs.declared.turn.Turn.TheVariants.{Ended}
use Rattle.sh_sum.proofs.Doing.{store_failed, store_given}
use Rattle.sh_sum.proofs.turning.do_store.Goals as goal

pub returns-in-Ok-clause-acts : goal.returns-in-Ok-clause-acts
returns-in-Ok-clause-acts g c =
    let n = to_z w64 (of_z w64 c.in-Ok.number) in
    let same : to_z w64 (of_z w64 c.in-Ok.number) ≡ c.in-Ok.number = search rules in
    acts_as g.B.Base.seen (stored c.args.name.now n c.operand.new.values) (store_done c.args.op c.args.name.now c.args.values) c.args.view.now c.store.new.view c.store.result
    (λ u s. store_given c.args.op c.args.name.now n c.args.values c.operand.new.values u (c.in-Ok.ensures.number ∙ ap gives (sym same)) c.operand.ensures.below) c.store.ensures.acts

pub returns-in-Err-clause-acts : goal.returns-in-Err-clause-acts
returns-in-Err-clause-acts g c =
    acts_answer g.B.Base.seen (store_done c.args.op c.args.name.now c.args.values) c.args.view.now (Ended c.fault.result)
    (λ u s. store_failed c.args.op c.args.name.now c.args.values u c.in-Err.why c.fault.result c.fault.ensures c.in-Err.ensures.number)
