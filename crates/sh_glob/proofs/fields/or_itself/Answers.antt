use Rattle.std.proofs.Common.{◌≡◌, List, ℕ, length, sym, ap, ◌∙◌, subst}
use Rattle.std.specs.Prelude.{◌==◌, IfOk}
use Rattle.sh_glob.proofs.Found.{or_none, or_some}
use Rattle.sh_glob.proofs.fields.or_itself.Goals as goal

pub returns-then-is_empty : goal.returns-then-is_empty
returns-then-is_empty c =
    subst (λ (z : List (List ℕ)). IfOk c.itself.result (λ l. l ≡ z))
    (or_none c.args.paths c.args.field.now (ap (λ (ps : List (List ℕ)). length ps == 0) (sym c.as_slice.ensures) ∙ sym c.is_empty.ensures ∙ c.if-is_empty.true)) c.itself.ensures

pub returns : goal.returns
returns c = or_some c.args.paths c.args.field.now (ap (λ (ps : List (List ℕ)). length ps == 0) (sym c.as_slice.ensures) ∙ sym c.is_empty.ensures ∙ c.if-is_empty.false)
