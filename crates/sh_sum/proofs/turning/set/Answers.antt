use Rattle.std.proofs.Common.{refl}
use Rattle.hs_world.specs.declared.effect.Effect.TheVariants.{SetVar}
use Rattle.hs_view.specs.Acts.{only}
use Rattle.hs_view.proofs.Acting.{acts_on, acts_put, acts_unput}
use Rattle.sh_sum.proofs.turning.set.Goals as goal

pub put-requires : goal.put-requires
put-requires g c = record { valid = λ o u s. refl; pushed = λ w. refl }

pub returns-in_err-put-clause-acts : goal.returns-in_err-put-clause-acts
returns-in_err-put-clause-acts g c =
    let f = c.in_err-put.ensures in
    let m = only (SetVar c.args.name c.args.var) c.args.turn in
    acts_on g.B.Base.seen m c.args.view.now c.put.new.self c.in_err-put.field-0.0 _ c.from_residual.ensures.0 c.from_residual.ensures.1
    (acts_unput g.B.Base.seen m c.args.view.now c.put.new.self (SetVar c.args.name c.args.var) c.in_err-put.field-0.0 (record { reads = f.reads; effects = f.effects; keeps = f.keeps; left = f.left; full = f.full; fault = f.fault; trace = f.trace; through = f.through; spent = f.spent; long = f.long; tree = f.tree; turns = f.turns; frames = f.frames; outside = f.outside }) (λ u. refl))

pub returns-clause-acts : goal.returns-clause-acts
returns-clause-acts g c =
    let f = c.in_ok-put.ensures in
    acts_put g.B.Base.seen (only (SetVar c.args.name c.args.var) c.args.turn) c.args.view.now c.put.new.self (SetVar c.args.name c.args.var) _ c.args.turn (record { reads = f.reads; effects = f.effects; keeps = f.keeps; left = f.left; full = f.full; fault = f.fault; trace = f.trace; through = f.through; spent = f.spent; long = f.long; tree = f.tree; turns = f.turns; frames = f.frames; outside = f.outside }) (λ u s. refl)
