use Rattle.std.proofs.Common.{◌≡◌, of_z, refl, rules, to_z, w64}
use Rattle.hs_view.proofs.Acting.{acts_memory_on, acts_on, acts_read, acts_read_then, acts_unread}
use Rattle.sh_sum.specs.Turns.{read_done}
use Rattle.sh_sum.specs.declared.sum.Sum.TheVariants.{Bad}
use Rattle.sh_sum.specs.declared.turn.Turn.TheVariants.{Ended}
use Rattle.sh_sum.proofs.Doing.{read_none, read_pushed}
use Rattle.sh_sum.proofs.turning.do_read.Goals as goal

pub returns-in_err-var-clause-acts : goal.returns-in_err-var-clause-acts
returns-in_err-var-clause-acts g c =
    let e = c.in_err-var.ensures in
    let m = read_done c.args.name.now c.args.values in
    acts_on g.B.Base.seen m c.args.view.now c.var.new.self c.in_err-var.field-0.0 _ c.from_residual.ensures.0 c.from_residual.ensures.1
    (acts_unread g.B.Base.seen m c.args.view.now c.var.new.self c.in_err-var.field-0.0 (record { effects = e.effects; keeps = e.keeps; fault = e.fault; trace = e.trace; through = e.through; spent = e.spent; outside = e.outside }) e.world)

pub returns-in_err-turn-in-Some-clause-acts : goal.returns-in_err-turn-in-Some-clause-acts
returns-in_err-turn-in-Some-clause-acts g c =
    let e = c.in_ok-var.ensures in
    let m = read_done c.args.name.now c.args.values in
    acts_read_then g.B.Base.seen m m c.args.view.now c.var.new.self c.var.new.self _ _ (record { effects = e.effects; keeps = e.keeps; fault = e.fault; trace = e.trace; through = e.through; spent = e.spent; outside = e.outside }) (λ u s. refl)
    (acts_memory_on g.B.Base.seen m c.var.new.self _ c.from_residual-in_err-turn-in-Some.ensures.0 c.from_residual-in_err-turn-in-Some.ensures.1)

pub returns-in_ok-turn-in-Some-clause-acts : goal.returns-in_ok-turn-in-Some-clause-acts
returns-in_ok-turn-in-Some-clause-acts g c =
    let e = c.in_ok-var.ensures in
    let vs = c.args.values in
    let same : to_z w64 (of_z w64 c.in-Some.number) ≡ c.in-Some.number = search rules in
    acts_read g.B.Base.seen (read_done c.args.name.now vs) c.args.view.now c.var.new.self _ c.in_ok-turn-in-Some.turn (record { effects = e.effects; keeps = e.keeps; fault = e.fault; trace = e.trace; through = e.through; spent = e.spent; outside = e.outside })
    (λ u s. read_pushed c.args.name.now c.in-Some.number _ vs u c.in_ok-var.var c.number_of.result c.in_ok-turn-in-Some.turn (e.answer u s) c.number_of.ensures c.in-Some.is same c.in_ok-turn-in-Some.ensures)

pub returns-in-None-clause-acts : goal.returns-in-None-clause-acts
returns-in-None-clause-acts g c =
    let e = c.in_ok-var.ensures in
    let vs = c.args.values in
    acts_read g.B.Base.seen (read_done c.args.name.now vs) c.args.view.now c.var.new.self _ (Ended Bad) (record { effects = e.effects; keeps = e.keeps; fault = e.fault; trace = e.trace; through = e.through; spent = e.spent; outside = e.outside })
    (λ u s. read_none c.args.name.now vs u c.in_ok-var.var c.number_of.result (e.answer u s) c.number_of.ensures c.in-None.is)
