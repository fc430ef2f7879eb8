use Rattle.std.proofs.Common.{List, ℕ, subst}
use Rattle.std.specs.Prelude.{codes}
use Rattle.hs_view.specs.Acts.{Acts}
use Rattle.util_test.specs.Testing.{tested}
use Rattle.util_test.proofs.testing.test_.Goals as goal

pub returns : goal.returns
returns g c =
    subst (λ (ws : List (List ℕ)). Acts g.B.Base.seen (tested (codes "test") ws) c.args.view.now c.tested.new.view c.tested.result) c.as_slice.ensures c.tested.ensures
