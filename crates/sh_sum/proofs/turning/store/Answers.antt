use Rattle.std.proofs.Common.{ℤ, ◌∷◌, None, ap, refl, sym, w64, ◌∙◌}
use Rattle.std.proofs.lemmas.Int.{to_z-of_z}
use Rattle.hs_world.specs.declared.effect.Effect.TheVariants.{SetVar}
use Rattle.hs_view.specs.Acts.{only}
use Rattle.hs_view.proofs.Acting.{acts_memory_on, acts_on, acts_read, acts_read_then, acts_unread}
use Rattle.sh_sum.specs.Sums.{assigned_var}
use Rattle.sh_sum.specs.Turns.{stored}
use Rattle.sh_sum.specs.declared.sum.Sum.TheVariants.{Bad}
use Rattle.sh_sum.specs.declared.turn.Turn.TheVariants.{Ended, On}
use Rattle.sh_sum.proofs.Doing.{stored_fixed, stored_set}
use Rattle.sh_sum.proofs.turning.store.Goals as goal

pub returns-in_err-var-clause-acts : goal.returns-in_err-var-clause-acts
returns-in_err-var-clause-acts g c =
    let e = c.in_err-var.ensures in
    let m = stored c.args.name.now c.args.number c.args.values in
    acts_on g.B.Base.seen m c.args.view.now c.var.new.self c.in_err-var.field-0.0 _ c.from_residual.ensures.0 c.from_residual.ensures.1
    (acts_unread g.B.Base.seen m c.args.view.now c.var.new.self c.in_err-var.field-0.0 (record { effects = e.effects; keeps = e.keeps; fault = e.fault; trace = e.trace; through = e.through; spent = e.spent; outside = e.outside }) e.world)

pub returns-then-is_readonly-clause-acts : goal.returns-then-is_readonly-clause-acts
returns-then-is_readonly-clause-acts g c =
    let e = c.in_ok-var.ensures in
    acts_read g.B.Base.seen (stored c.args.name.now c.args.number c.args.values) c.args.view.now c.var.new.self _ (Ended Bad) (record { effects = e.effects; keeps = e.keeps; fault = e.fault; trace = e.trace; through = e.through; spent = e.spent; outside = e.outside })
    (λ u s. stored_fixed c.args.name.now c.args.number c.args.values u c.in_ok-var.var (e.answer u s) (sym c.is_readonly.ensures ∙ c.if-is_readonly.true))

pub returns-in_err-name-clause-acts : goal.returns-in_err-name-clause-acts
returns-in_err-name-clause-acts g c =
    let e = c.in_ok-var.ensures in
    let m = stored c.args.name.now c.args.number c.args.values in
    acts_read_then g.B.Base.seen m m c.args.view.now c.var.new.self c.var.new.self _ _ (record { effects = e.effects; keeps = e.keeps; fault = e.fault; trace = e.trace; through = e.through; spent = e.spent; outside = e.outside }) (λ u s. refl)
    (acts_memory_on g.B.Base.seen m c.var.new.self _ c.from_residual-in_err-name.ensures.0 c.from_residual-in_err-name.ensures.1)

pub returns-clause-acts : goal.returns-clause-acts
returns-clause-acts g c =
    let e = c.in_ok-var.ensures in
    let p = c.in_ok-name.ensures in
    let same = to_z-of_z w64 c.args.number c.ranges.number in
    acts_read_then g.B.Base.seen (only (SetVar c.in_ok-name.name c.in_ok-name.var) c.in_ok-name.turn) (stored c.args.name.now c.args.number c.args.values) c.args.view.now c.var.new.self c.set.new.view _ c.set.result (record { effects = e.effects; keeps = e.keeps; fault = e.fault; trace = e.trace; through = e.through; spent = e.spent; outside = e.outside })
    (λ u s. stored_set c.args.name.now c.in_ok-name.name c.args.number c.args.values u c.in_ok-var.var c.in_ok-name.var c.in_ok-name.turn (e.answer u s) (sym c.is_readonly.ensures ∙ c.if-is_readonly.false) p.name (p.var ∙ ap (assigned_var c.in_ok-var.var) same) (p.turn ∙ ap (λ (n : ℤ). On None (n ∷ c.args.values)) same)) c.set.ensures.acts
