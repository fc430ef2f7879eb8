use Rattle.std.proofs.Common.{Bool, sym, ap, ◌∙◌}
use Rattle.hs_view.specs.Steps.{nothing}
use Rattle.hs_view.proofs.Acting.{acts_answer, acts_as}
use Rattle.std.specs.Prelude.{cond}
use Rattle.hs_world.specs.declared.effect.Effect.TheVariants.{SetVar}
use Rattle.hs_view.specs.Acts.{only}
use Rattle.sh_arith.specs.declared.names.Assigned.TheVariants.{Yes, ReadOnly}
use Rattle.sh_param.specs.Assigns.{assigned_over, var_with}
use Rattle.sh_param.proofs.assigning.set_over.Goals as goal

pub returns-then-is_readonly : goal.returns-then-is_readonly
returns-then-is_readonly g c =
    acts_answer g.B.Base.seen (assigned_over c.args.before.now c.args.name.now c.args.text.now) c.args.view.now ReadOnly
    (λ u s. ap (λ (b : Bool). cond b (nothing ReadOnly u) (only (SetVar c.args.name.now (var_with c.args.before.now c.args.text.now)) Yes u)) (sym c.is_readonly.ensures ∙ c.if-is_readonly.true))

pub returns : goal.returns
returns g c =
    acts_as g.B.Base.seen (only (SetVar c.args.name.now (var_with c.args.before.now c.args.text.now)) Yes) (assigned_over c.args.before.now c.args.name.now c.args.text.now) c.args.view.now c.set.new.view c.set.result
    (λ u s. ap (λ (b : Bool). cond b (nothing ReadOnly u) (only (SetVar c.args.name.now (var_with c.args.before.now c.args.text.now)) Yes u)) (sym c.if-is_readonly.false ∙ c.is_readonly.ensures)) c.set.ensures
