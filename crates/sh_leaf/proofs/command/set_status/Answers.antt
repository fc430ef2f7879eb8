use Rattle.std.proofs.Common.{refl}
use Rattle.hs_world.specs.declared.effect.Effect.TheVariants.{SetStatus}
use Rattle.hs_view.proofs.Acting.{acts_on, acts_put, acts_unput}
use Rattle.sh_leaf.specs.Command.{set_status}
use Rattle.sh_leaf.specs.declared.outcome.Outcome.TheVariants.{Status}
use Rattle.sh_leaf.proofs.command.set_status.Goals as goal

pub returns-in_err-put : goal.returns-in_err-put
returns-in_err-put g c =
    let e = c.in_err-put.ensures in
    let m = set_status c.args.status in
    acts_on g.B.Base.seen m c.args.view.now c.put.new.self c.in_err-put.field-0.0 _ c.from_residual.ensures.0 c.from_residual.ensures.1
    (acts_unput g.B.Base.seen m c.args.view.now c.put.new.self (SetStatus c.args.status) c.in_err-put.field-0.0
    (record { reads = e.reads; effects = e.effects; keeps = e.keeps; left = e.left; full = e.full; fault = e.fault; trace = e.trace; through = e.through; spent = e.spent; long = e.long; tree = e.tree; turns = e.turns; frames = e.frames; outside = e.outside })
    (λ u. refl))

pub returns : goal.returns
returns g c =
    let e = c.in_ok-put.ensures in
    acts_put g.B.Base.seen (set_status c.args.status) c.args.view.now c.put.new.self (SetStatus c.args.status) _ (Status c.args.status)
    (record { reads = e.reads; effects = e.effects; keeps = e.keeps; left = e.left; full = e.full; fault = e.fault; trace = e.trace; through = e.through; spent = e.spent; long = e.long; tree = e.tree; turns = e.turns; frames = e.frames; outside = e.outside })
    (λ u s. refl)
