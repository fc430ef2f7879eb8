use Rattle.std.proofs.Common.{sym, ap}
use Rattle.hs_view.proofs.Acting.{acts_on, acts_unput}
use Rattle.std.specs.Prelude.{[], ◌∷◌}
use Rattle.hs_world.specs.declared.effect.Effect.{Effect}
use Rattle.hs_world.specs.declared.effect.Effect.TheVariants.{SetVar}
use Rattle.hs_view.specs.Acts.{only}
use Rattle.sh_arith.specs.declared.names.Assigned.TheVariants.{Yes}
use Rattle.sh_param.specs.Assigns.{var_with}
use Rattle.sh_param.proofs.assigning.set.Goals as goal

pub returns-in_err-put : goal.returns-in_err-put
returns-in_err-put g c =
    let e = c.in_err-put.ensures in
    let m = only (SetVar c.args.name.now (var_with c.args.before.now c.args.text.now)) Yes in
    acts_on g.B.Base.seen m c.args.view.now c.put.new.self c.in_err-put.field-0.0 _ c.from_residual-in_err-put.ensures.0 c.from_residual-in_err-put.ensures.1
    (acts_unput g.B.Base.seen m c.args.view.now c.put.new.self c.in_ok-effect.effect c.in_err-put.field-0.0 (record { reads = e.reads; effects = e.effects; keeps = e.keeps; left = e.left; full = e.full; fault = e.fault; trace = e.trace; through = e.through; spent = e.spent; long = e.long; tree = e.tree; turns = e.turns; frames = e.frames; outside = e.outside }) (λ u. ap (λ (x : Effect). x ∷ []) (sym c.in_ok-effect.ensures)))
