-- Steps of a sum.
use Rattle.std.proofs.Common.{◌≡◌, ◌≤◌, ◌-◌, ap, ◌∙◌, length, take, drop, get_or, ℕ, ◌==◌, ◌&&◌, false, List, ◌∷◌, [], refl, arith}
use Rattle.sh_lexer.specs.Bytes.{joins, special, peel}
use Rattle.sh_lexer.specs.Lex.{sum, sum_onto, closes}
use Rattle.sh_lexer.proofs.Fronts.{two_at}
use Rattle.sh_lexer.specs.Runs.{brackets, IsUnjoined}

pub taken : (n b c : ℕ) (r : List ℕ) → joins b c ≡ false → special b ≡ false → (b == 41 && (n == 0 && closes (peel (c ∷ r)))) ≡ false →
    sum n (b ∷ c ∷ r) ≡ sum_onto b (sum (brackets n b) (c ∷ r))
unfolding sum
taken n b c r unjoined plain goes_on = grind arith

pub taken_at : (n b : ℕ) (t : List ℕ) → IsUnjoined b t → special b ≡ false → (b == 41 && (n == 0 && closes (peel t))) ≡ false →
    sum n (b ∷ t) ≡ sum_onto b (sum (brackets n b) t)
taken_at n b [] unjoined plain goes_on = absurd unjoined
taken_at n b (c ∷ r) unjoined plain goes_on = taken n b c r unjoined plain goes_on

pub joined : (n : ℕ) (r : List ℕ) → sum n (92 ∷ 10 ∷ r) ≡ sum n r
unfolding sum
joined n r = refl

pub joined_at : (n : ℕ) (t : List ℕ) → 2 ≤ length t → get_or t 0 0 ≡ 92 → get_or t 1 0 ≡ 10 → sum n t ≡ sum n (take (length t - 2) (drop 2 t))
joined_at n t long p q = ap (sum n) (two_at t 92 10 long p q) ∙ joined n _
