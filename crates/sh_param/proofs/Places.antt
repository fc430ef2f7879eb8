-- Positional parameters behind the last one.
use Rattle.std.proofs.Common.{◌≡◌, ℕ, zero, suc, ◌<◌, ◌≤◌, List, [], ◌∷◌, length, refl, ap, arith}
use Rattle.std.specs.Prelude.{None, slice_get}
use Rattle.sh_param.specs.Lookups.{one_or_unset, positional}
use Rattle.sh_param.specs.declared.value.ParamValue.TheVariants.{Unset}

none_at : (ts : List (List ℕ)) (k : ℕ) → length ts ≤ k → slice_get ts k ≡ None
none_at [] k h = refl
none_at (t ∷ ts) zero h = absurd (omega (arith, h))
none_at (t ∷ ts) (suc k) h = none_at ts k (omega (arith, h))

pub unset_at : (n : ℕ) (first : List ℕ) (ts : List (List ℕ)) → length ts < n → positional n first ts ≡ Unset
unset_at zero first ts h = absurd (omega (arith, h))
unset_at (suc n) first ts h = ap one_or_unset (none_at ts n (omega (arith, h)))
