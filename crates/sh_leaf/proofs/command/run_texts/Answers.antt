use native.Mathlib.Omega.{arith}
use Rattle.std.proofs.Common.{◌≡◌, List, ℕ, [], ◌∷◌, length, subst, sym, refl}
use Rattle.hs_view.specs.Acts.{Acts}
use Rattle.sh_leaf.specs.Command.{texts_run}
use Rattle.sh_leaf.proofs.command.run_texts.Goals as goal

no-texts : (ts : List (List ℕ)) → 0 ≡ length ts → ts ≡ []
no-texts [] e = refl
no-texts (t ∷ ts) e = absurd (omega (arith, e))

pub returns-in-None : goal.returns-in-None
returns-in-None g c =
    subst (λ (ts : List (List ℕ)). Acts g.B.Base.seen (texts_run c.args.assigns.now c.args.status ts) c.args.view.now c.keep_all.new.view c.keep_all.result) (sym (no-texts c.args.texts.now (sym c.in-None.ensures.cases))) c.keep_all.ensures
