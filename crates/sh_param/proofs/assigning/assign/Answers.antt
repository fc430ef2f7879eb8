use Rattle.std.proofs.Common.{Option, sym, ap}
use Rattle.hs_world.specs.declared.var.Var.{Var}
use Rattle.hs_view.proofs.Acting.{acts_read_then}
use Rattle.sh_param.specs.Assigns.{assigned, assigned_over}
use Rattle.sh_param.proofs.assigning.assign.Goals as goal

pub returns : goal.returns
returns g c =
    let e = c.in_ok-before.ensures in
    acts_read_then g.B.Base.seen (assigned_over c.in_ok-before.before c.args.name.now c.args.text.now) (assigned c.args.name.now c.args.text.now) c.args.view.now c.var.new.self c.set_over.new.view _ c.set_over.result (record { effects = e.effects; keeps = e.keeps; fault = e.fault; trace = e.trace; through = e.through; spent = e.spent; outside = e.outside })
    (λ u s. ap (λ (o : Option Var). assigned_over o c.args.name.now c.args.text.now u) (sym (e.answer u s))) c.set_over.ensures
