-- Numbers up to a greatest one.
use Rattle.std.proofs.Common.{◌≡◌, ℕ, ◌+◌, ◌*◌, ◌-◌, List, [], ◌∷◌, sym, ap, ◌∙◌, arith}
use Rattle.std.specs.Prelude.{min}
use Rattle.sh_param.specs.Kinds.{number}

same_capped : (m n d : ℕ) → min (min n m * 10 + d) m ≡ min (n * 10 + d) m
same_capped m n d = omega arith

-- Digits behind a number that was capped write a number that is capped the same.
pub number_capped : (m n : ℕ) (r : List ℕ) → min (number (min n m) r) m ≡ min (number n r) m
number_capped m n [] = omega arith
number_capped m n (b ∷ r) =
    sym (number_capped m (min n m * 10 + (b - 48)) r)
    ∙ ap (λ (x : ℕ). min (number x r) m) (same_capped m n (b - 48))
    ∙ number_capped m (n * 10 + (b - 48)) r

-- one digit more
pub number_step : (m n b : ℕ) (r : List ℕ) → min (number (min (min (n * 10) m + (b - 48)) m) r) m ≡ min (number n (b ∷ r)) m
number_step m n b r =
    let e : min (min (n * 10) m + (b - 48)) m ≡ min (n * 10 + (b - 48)) m = omega arith in
    ap (λ (x : ℕ). min (number x r) m) e ∙ number_capped m (n * 10 + (b - 48)) r
