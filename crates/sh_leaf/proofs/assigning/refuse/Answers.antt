use Rattle.std.proofs.Common.{List, ℕ, sym, ap, ◌∙◌}
use Rattle.std.specs.Prelude.{Option, Err, codes}
use Rattle.hs_world.specs.declared.var.Var.{Var}
use Rattle.hs_view.specs.Steps.{nothing}
use Rattle.hs_view.proofs.Acting.{acts_answer, acts_memory_on}
use Rattle.sh_param.specs.Messages.{message}
use Rattle.sh_leaf.specs.Expanding.{Came}
use Rattle.sh_leaf.proofs.assigning.refuse.Goals as goal

pub returns-in_err-why : goal.returns-in_err-why
returns-in_err-why g c = acts_memory_on g.B.Base.seen (λ w. nothing {A = Came (Option Var)} (Err (message c.args.name.now (codes "is read only"))) w) c.args.view.now _ c.from_residual.ensures.0 c.from_residual.ensures.1

pub returns : goal.returns
returns g c =
    acts_answer g.B.Base.seen (λ w. nothing {A = Came (Option Var)} (Err (message c.args.name.now (codes "is read only"))) w) c.args.view.now (Err c.in_ok-why.why)
    (λ u s. ap (λ (t : List ℕ). nothing {A = Came (Option Var)} (Err t) u) (sym (c.in_ok-why.ensures ∙ ap (λ (n : List ℕ). message n (codes "is read only")) c.as_slice.ensures)))
