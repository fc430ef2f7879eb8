use Rattle.std.proofs.Common.{[], ◌∷◌, sym, ap}
use Rattle.std.specs.Prelude.{Option, Ok}
use Rattle.hs_world.specs.declared.effect.Effect.{Effect}
use Rattle.hs_world.specs.declared.effect.Effect.TheVariants.{SetVar}
use Rattle.hs_world.specs.declared.var.Var.{Var}
use Rattle.hs_view.specs.Acts.{only}
use Rattle.hs_view.proofs.Acting.{acts_memory_on, acts_on, acts_put, acts_unput}
use Rattle.sh_leaf.specs.Assigning.{var_made}
use Rattle.sh_leaf.specs.Expanding.{Came}
use Rattle.sh_leaf.proofs.assigning.set.Goals as goal

pub returns-in_err-effect : goal.returns-in_err-effect
returns-in_err-effect g c =
    acts_memory_on g.B.Base.seen (only {A = Came (Option Var)} (SetVar c.args.name.now (var_made c.args.exports c.args.before c.args.text)) (Ok c.args.before)) c.args.view.now _ c.from_residual.ensures.0 c.from_residual.ensures.1

pub returns-in_err-put : goal.returns-in_err-put
returns-in_err-put g c =
    let e = c.in_err-put.ensures in
    let m = only {A = Came (Option Var)} (SetVar c.args.name.now (var_made c.args.exports c.args.before c.args.text)) (Ok c.args.before) in
    acts_on g.B.Base.seen m c.args.view.now c.put.new.self c.in_err-put.field-0.0 _ c.from_residual-in_err-put.ensures.0 c.from_residual-in_err-put.ensures.1
    (acts_unput g.B.Base.seen m c.args.view.now c.put.new.self c.in_ok-effect.effect c.in_err-put.field-0.0 (record { reads = e.reads; effects = e.effects; keeps = e.keeps; left = e.left; full = e.full; fault = e.fault; trace = e.trace; through = e.through; spent = e.spent; long = e.long; tree = e.tree; turns = e.turns; frames = e.frames; outside = e.outside }) (λ u. ap (λ (x : Effect). x ∷ []) (sym c.in_ok-effect.ensures)))

pub returns : goal.returns
returns g c =
    let e = c.in_ok-put.ensures in
    acts_put g.B.Base.seen (only {A = Came (Option Var)} (SetVar c.args.name.now (var_made c.args.exports c.args.before c.args.text)) (Ok c.args.before)) c.args.view.now c.put.new.self c.in_ok-effect.effect _ (Ok c.args.before) (record { reads = e.reads; effects = e.effects; keeps = e.keeps; left = e.left; full = e.full; fault = e.fault; trace = e.trace; through = e.through; spent = e.spent; long = e.long; tree = e.tree; turns = e.turns; frames = e.frames; outside = e.outside })
    (λ u s. ap (λ (x : Effect). only x (Ok c.args.before) u) (sym c.in_ok-effect.ensures))
