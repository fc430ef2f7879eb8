use Rattle.hs_world.specs.declared.effect.Effect.TheVariants.{PushInput, PopInput}
use Rattle.hs_view.specs.Acts.{only}
use Rattle.sh_leaf.proofs.Puts.{one_put, pop_pushed, pop_valid, two_halt, two_then}
use Rattle.sh_leaf.proofs.measuring.put_and_take.Goals as goal

pub put-requires-2-clause-valid : goal.put-requires-2-clause-valid
put-requires-2-clause-valid g c = λ own.
    pop_valid g.B.Base.seen c.args.text c.args.view.now c.put.new.self c.in_ok-put.ensures.keeps c.in_ok-put.ensures.effects

pub put-requires-2-clause-pushed : goal.put-requires-2-clause-pushed
put-requires-2-clause-pushed g c = λ w. pop_pushed c.args.text c.args.view.now.effects c.put.new.self.effects c.in_ok-put.ensures.effects

pub returns-in_err-put : goal.returns-in_err-put
returns-in_err-put g c =
    let e = c.in_err-put.ensures in
    two_halt g.B.Base.seen (PushInput c.args.text) (λ x. only PopInput tt) c.args.view.now c.put.new.self c.in_err-put.field-0.0 _ c.from_residual.ensures.0 c.from_residual.ensures.1 (record { reads = e.reads; effects = e.effects; keeps = e.keeps; left = e.left; full = e.full; fault = e.fault; trace = e.trace; through = e.through; spent = e.spent; long = e.long; tree = e.tree; turns = e.turns; frames = e.frames; outside = e.outside })

pub returns : goal.returns
returns g c =
    let d = c.in_ok-put.ensures in
    let e = c.put-2.ensures in
    two_then g.B.Base.seen (PushInput c.args.text) (λ x. only PopInput tt) c.args.view.now c.put.new.self c.put-2.new.self c.put-2.result
    (record { reads = d.reads; effects = d.effects; keeps = d.keeps; left = d.left; full = d.full; fault = d.fault; trace = d.trace; through = d.through; spent = d.spent; long = d.long; tree = d.tree; turns = d.turns; frames = d.frames; outside = d.outside })
    (one_put g.B.Base.seen PopInput c.put.new.self c.put-2.new.self c.put-2.result (record { reads = e.reads; effects = e.effects; keeps = e.keeps; left = e.left; full = e.full; fault = e.fault; trace = e.trace; through = e.through; spent = e.spent; long = e.long; tree = e.tree; turns = e.turns; frames = e.frames; outside = e.outside }))
