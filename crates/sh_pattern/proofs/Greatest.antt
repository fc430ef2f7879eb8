-- The first number from above for which a test holds.
use Rattle.std.proofs.Common.{◌≡◌, ℕ, ◌+◌, ◌-◌, ◌<◌, ◌≤◌, Bool, true, false, Some, None, subst, arith}
use Rattle.sh_pattern.specs.Match.{IsGreatest}

from-above : (test : ℕ → Bool) (last after k : ℕ) → k ≤ last → last < k + after → ((j : ℕ) → j < after → test (last - j) ≡ false) → test k ≡ false
from-above test last after k h l below =
    let back : last - (last - k) ≡ k = omega arith in
    subst (λ (x : ℕ). test x ≡ false) back (below (last - k) (omega arith))

pub greatest : (test : ℕ → Bool) (last after : ℕ) → test (last - after) ≡ true →
    ((j : ℕ) → j < after → test (last - j) ≡ false) → IsGreatest test last (Some (last - after))
greatest test last after h below = (omega arith, h, λ k l m. from-above test last after k m (omega arith) below)

pub none-greatest : (test : ℕ → Bool) (last after : ℕ) → last < after → ((j : ℕ) → j < after → test (last - j) ≡ false) → IsGreatest test last None
none-greatest test last after h below = λ k m. from-above test last after k m (omega arith) below
