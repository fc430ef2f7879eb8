use Rattle.std.proofs.Common.{refl}
use Rattle.hs_world.specs.declared.effect.Effect.TheVariants.{Emit, SetStatus}
use Rattle.hs_world.specs.declared.effect.Fd.TheVariants.{Two}
use Rattle.hs_view.specs.Acts.{only}
use Rattle.hs_view.proofs.Acting.{acts_on, acts_put, acts_unput}
use Rattle.sh_leaf.specs.declared.outcome.Outcome.TheVariants.{Exit}
use Rattle.sh_leaf.proofs.Puts.{two_halt, two_then}
use Rattle.sh_leaf.proofs.command.fail.Goals as goal

pub returns-in_err-put : goal.returns-in_err-put
returns-in_err-put g c =
    let e = c.in_err-put.ensures in
    two_halt g.B.Base.seen (Emit Two c.args.why) (λ x. only (SetStatus 2) (Exit 2)) c.args.view.now c.put.new.self c.in_err-put.field-0.0 _ c.from_residual.ensures.0 c.from_residual.ensures.1 (record { reads = e.reads; effects = e.effects; keeps = e.keeps; left = e.left; full = e.full; fault = e.fault; trace = e.trace; through = e.through; spent = e.spent; long = e.long; tree = e.tree; turns = e.turns; frames = e.frames; outside = e.outside })

pub returns-in_err-put-2 : goal.returns-in_err-put-2
returns-in_err-put-2 g c =
    let d = c.in_ok-put.ensures in
    let e = c.in_err-put-2.ensures in
    let last = only (SetStatus 2) (Exit 2) in
    let h = c.in_err-put-2.field-0.0 in
    two_then g.B.Base.seen (Emit Two c.args.why) (λ x. last) c.args.view.now c.put.new.self c.put-2.new.self _ (record { reads = d.reads; effects = d.effects; keeps = d.keeps; left = d.left; full = d.full; fault = d.fault; trace = d.trace; through = d.through; spent = d.spent; long = d.long; tree = d.tree; turns = d.turns; frames = d.frames; outside = d.outside })
    (acts_on g.B.Base.seen last c.put.new.self c.put-2.new.self h _ c.from_residual-in_err-put-2.ensures.0 c.from_residual-in_err-put-2.ensures.1 (acts_unput g.B.Base.seen last c.put.new.self c.put-2.new.self (SetStatus 2) h (record { reads = e.reads; effects = e.effects; keeps = e.keeps; left = e.left; full = e.full; fault = e.fault; trace = e.trace; through = e.through; spent = e.spent; long = e.long; tree = e.tree; turns = e.turns; frames = e.frames; outside = e.outside }) (λ u. refl)))

pub returns : goal.returns
returns g c =
    let d = c.in_ok-put.ensures in
    let e = c.in_ok-put-2.ensures in
    let last = only (SetStatus 2) (Exit 2) in
    two_then g.B.Base.seen (Emit Two c.args.why) (λ x. last) c.args.view.now c.put.new.self c.put-2.new.self _ (record { reads = d.reads; effects = d.effects; keeps = d.keeps; left = d.left; full = d.full; fault = d.fault; trace = d.trace; through = d.through; spent = d.spent; long = d.long; tree = d.tree; turns = d.turns; frames = d.frames; outside = d.outside })
    (acts_put g.B.Base.seen last c.put.new.self c.put-2.new.self (SetStatus 2) _ (Exit 2) (record { reads = e.reads; effects = e.effects; keeps = e.keeps; left = e.left; full = e.full; fault = e.fault; trace = e.trace; through = e.through; spent = e.spent; long = e.long; tree = e.tree; turns = e.turns; frames = e.frames; outside = e.outside }) (λ u s. refl))
