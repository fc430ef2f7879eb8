use Rattle.std.proofs.Common.{◌≡◌, ◌≤◌, List, ℕ, length, ap, sym, subst}
use Rattle.util_lines.proofs.ByteSets.{class_within}
use Rattle.util_lines.proofs.byte_set.Element.at.Goals as goal

pub returns-clause-within : goal.returns-clause-within
returns-clause-within c = subst (λ (l : List ℕ). length l ≤ length c.args.rest.now) (sym c.written.ensures) (class_within c.args.rest.now c.in-Some.class (sym c.in-Some.ensures.class))
