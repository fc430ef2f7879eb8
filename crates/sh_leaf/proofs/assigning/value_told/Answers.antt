use Rattle.std.proofs.Common.{List, ℕ, sym, ap}
use Rattle.std.specs.Prelude.{Ok}
use Rattle.hs_view.specs.Steps.{nothing}
use Rattle.hs_view.proofs.Acting.{acts_answer, acts_memory_on}
use Rattle.sh_leaf.specs.Assigning.{value_told}
use Rattle.sh_leaf.specs.Expanding.{Came}
use Rattle.sh_leaf.proofs.assigning.value_told.Goals as goal

pub returns-in_err-text : goal.returns-in_err-text
returns-in_err-text g c = acts_memory_on g.B.Base.seen (value_told c.args.fields.now) c.args.view.now _ c.from_residual.ensures.0 c.from_residual.ensures.1

pub returns : goal.returns
returns g c =
    acts_answer g.B.Base.seen (value_told c.args.fields.now) c.args.view.now (Ok c.in_ok-text.text)
    (λ u s. ap (λ (t : List ℕ). nothing {A = Came (List ℕ)} (Ok t) u) (sym c.in_ok-text.ensures))
