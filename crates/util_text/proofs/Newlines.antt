-- Newlines, counted piece by piece.
use Rattle.std.proofs.Common.{◌≡◌, ℕ, ◌+◌, ◌≤◌, Bool, true, false, cond, List, [], ◌∷◌, ◌++◌, length, sym, ap, ◌∙◌, arith}
use Rattle.std.proofs.Math.Nat.{add_assoc}
use Rattle.std.specs.Prelude.{◌==◌}
use Rattle.util_text.specs.Counting.{newline, newlines}

pub newlines_append : (front back : List ℕ) → newlines (front ++ back) ≡ newlines front + newlines back
newlines_append [] back = omega arith
newlines_append (b ∷ bs) back = ap (λ (n : ℕ). newline b + n) (newlines_append bs back) ∙ sym (add_assoc (newline b) (newlines bs) (newlines back))

one_at_most : (is : Bool) → cond is 1 0 ≤ 1
one_at_most true = omega arith
one_at_most false = omega arith

-- no text has more newlines than bytes
pub newlines_within : (text : List ℕ) → newlines text ≤ length text
newlines_within [] = omega arith
newlines_within (b ∷ bs) = omega (arith, one_at_most (b == 10), newlines_within bs)
