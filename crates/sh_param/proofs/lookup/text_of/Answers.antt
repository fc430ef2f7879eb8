use Rattle.std.proofs.Common.{List, ℕ, Option, sym, ap, ◌∙◌}
use Rattle.hs_world.specs.World.{WorldData}
use Rattle.hs_world.specs.declared.var.Var.{Var}
use Rattle.hs_view.specs.Steps.{nothing}
use Rattle.hs_view.proofs.Acting.{acts_on, acts_read, acts_unread}
use Rattle.sh_param.specs.Lookups.{text_in, text_of}
use Rattle.sh_param.proofs.lookup.text_of.Goals as goal

pub returns-in_err-var : goal.returns-in_err-var
returns-in_err-var g c =
    let e = c.in_err-var.ensures in
    acts_on g.B.Base.seen (λ (w : WorldData). nothing (text_of c.args.name.now w) w) c.args.view.now c.var.new.self c.in_err-var.field-0.0 _ c.from_residual.ensures.0 c.from_residual.ensures.1
    (acts_unread g.B.Base.seen (λ (w : WorldData). nothing (text_of c.args.name.now w) w) c.args.view.now c.var.new.self c.in_err-var.field-0.0 (record { effects = e.effects; keeps = e.keeps; fault = e.fault; trace = e.trace; through = e.through; spent = e.spent; outside = e.outside }) e.world)

pub returns : goal.returns
returns g c =
    let e = c.in_ok-var.ensures in
    acts_read g.B.Base.seen (λ (w : WorldData). nothing (text_of c.args.name.now w) w) c.args.view.now c.var.new.self c.in_ok-var.var c.text_in.result (record { effects = e.effects; keeps = e.keeps; fault = e.fault; trace = e.trace; through = e.through; spent = e.spent; outside = e.outside })
    (λ u s. ap (λ (o : Option Var). nothing (text_in o) u) (e.answer u s) ∙ ap (λ (t : Option (List ℕ)). nothing t u) (sym c.text_in.ensures))
