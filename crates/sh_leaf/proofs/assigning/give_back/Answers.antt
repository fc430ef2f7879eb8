use Rattle.std.proofs.Common.{ap, subst}
use Rattle.std.specs.Prelude.{Ok, Err}
use Rattle.hs_world.specs.declared.effect.Effect.{Effect}
use Rattle.hs_view.specs.Acts.{Acts, Loops, only}
use Rattle.hs_view.proofs.Acting.{acts_on, loops_end, loops_halt, loops_step}
use Rattle.sh_leaf.specs.Assigning.{Befores, set_back}
use Rattle.sh_leaf.specs.Command.{gives_back}
use Rattle.sh_leaf.proofs.Puts.{one_put}
use Rattle.sh_leaf.proofs.assigning.give_back.Goals as goal

pub befores-preserved : goal.befores-preserved
befores-preserved g c =
    let seen = g.B.Base.seen in
    let n = c.args.status in
    let whole = gives_back c.args.befores n in
    let e = c.in_ok-put.ensures in
    loops_step seen whole (only (set_back (c.in-Some.name, c.in-Some.before)) tt) (λ x. gives_back c.pop.new.self n) c.args.view.now c.befores.view c.put.new.self tt
    (subst (λ (bs : Befores). Loops seen whole (gives_back bs n) c.args.view.now c.befores.view) c.in-Some.ensures c.befores.invariant)
    (subst (λ (x : Effect). Acts seen (only x tt) c.befores.view c.put.new.self (Ok tt)) c.set_back.ensures (one_put seen c.set_back.result c.befores.view c.put.new.self (Ok tt) (record { reads = e.reads; effects = e.effects; keeps = e.keeps; left = e.left; full = e.full; fault = e.fault; trace = e.trace; through = e.through; spent = e.spent; long = e.long; tree = e.tree; turns = e.turns; frames = e.frames; outside = e.outside })))

pub returns-in_err-put : goal.returns-in_err-put
returns-in_err-put g c =
    let seen = g.B.Base.seen in
    let n = c.args.status in
    let whole = gives_back c.args.befores n in
    let e = c.in_err-put.ensures in
    let h = c.in_err-put.field-0.0 in
    acts_on seen whole c.args.view.now c.put.new.self h _ c.from_residual.ensures.0 c.from_residual.ensures.1
    (loops_halt seen whole (only (set_back (c.in-Some.name, c.in-Some.before)) tt) (λ x. gives_back c.pop.new.self n) c.args.view.now c.befores.view c.put.new.self h
    (subst (λ (bs : Befores). Loops seen whole (gives_back bs n) c.args.view.now c.befores.view) c.in-Some.ensures c.befores.invariant)
    (subst (λ (x : Effect). Acts seen (only x tt) c.befores.view c.put.new.self (Err h)) c.set_back.ensures (one_put seen c.set_back.result c.befores.view c.put.new.self (Err h) (record { reads = e.reads; effects = e.effects; keeps = e.keeps; left = e.left; full = e.full; fault = e.fault; trace = e.trace; through = e.through; spent = e.spent; long = e.long; tree = e.tree; turns = e.turns; frames = e.frames; outside = e.outside }))))

pub returns : goal.returns
returns g c =
    loops_end g.B.Base.seen (gives_back c.args.befores c.args.status) (gives_back c.befores.left c.args.status) c.args.view.now c.befores.view c.args.status
    (λ u. ap (λ (bs : Befores). gives_back bs c.args.status u) c.in_default.ensures.0) c.befores.invariant
