use Rattle.std.proofs.Common.{Option, sym, ap}
use Rattle.hs_world.specs.declared.var.Var.{Var}
use Rattle.hs_view.proofs.Acting.{acts_read_then}
use Rattle.sh_leaf.specs.Assigning.{set_over, set_var}
use Rattle.sh_leaf.proofs.assigning.set_var.Goals as goal

pub returns : goal.returns
returns g c =
    let e = c.in_ok-before.ensures in
    acts_read_then g.B.Base.seen (set_over c.args.exports c.in_ok-before.before c.args.name.now c.args.text) (set_var c.args.exports c.args.name.now c.args.text) c.args.view.now c.var.new.self c.set_over.new.view _ c.set_over.result (record { effects = e.effects; keeps = e.keeps; fault = e.fault; trace = e.trace; through = e.through; spent = e.spent; outside = e.outside })
    (λ u s. ap (λ (o : Option Var). set_over c.args.exports o c.args.name.now c.args.text u) (sym (e.answer u s))) c.set_over.ensures
