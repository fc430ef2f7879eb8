use Rattle.std.proofs.Common.{Bool, sym, ap, ◌∙◌, cond}
use Rattle.std.specs.Prelude.{Option, Ok, Err, codes}
use Rattle.hs_world.specs.declared.effect.Effect.TheVariants.{SetVar}
use Rattle.hs_world.specs.declared.var.Var.{Var}
use Rattle.hs_view.specs.Acts.{only}
use Rattle.hs_view.specs.Steps.{nothing}
use Rattle.hs_view.proofs.Acting.{acts_as}
use Rattle.sh_param.specs.Messages.{message}
use Rattle.sh_leaf.specs.Assigning.{set_over, var_made}
use Rattle.sh_leaf.specs.Expanding.{Came}
use Rattle.sh_leaf.proofs.assigning.set_over.Goals as goal

pub returns-then-is_readonly : goal.returns-then-is_readonly
returns-then-is_readonly g c =
    let no = nothing {A = Came (Option Var)} (Err (message c.args.name.now (codes "is read only"))) in
    let yes = only {A = Came (Option Var)} (SetVar c.args.name.now (var_made c.args.exports c.args.before c.args.text)) (Ok c.args.before) in
    acts_as g.B.Base.seen no (set_over c.args.exports c.args.before c.args.name.now c.args.text) c.args.view.now c.refuse.new.view c.refuse.result
    (λ u s. ap (λ (b : Bool). cond b (no u) (yes u)) (sym c.if-is_readonly.true ∙ c.is_readonly.ensures)) c.refuse.ensures

pub returns : goal.returns
returns g c =
    let no = nothing {A = Came (Option Var)} (Err (message c.args.name.now (codes "is read only"))) in
    let yes = only {A = Came (Option Var)} (SetVar c.args.name.now (var_made c.args.exports c.args.before c.args.text)) (Ok c.args.before) in
    acts_as g.B.Base.seen yes (set_over c.args.exports c.args.before c.args.name.now c.args.text) c.args.view.now c.set.new.view c.set.result
    (λ u s. ap (λ (b : Bool). cond b (no u) (yes u)) (sym c.if-is_readonly.false ∙ c.is_readonly.ensures)) c.set.ensures
