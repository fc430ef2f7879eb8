-- Digits at the start of a text, and what they write.
use Rattle.std.proofs.Common.{◌≡◌, ℕ, zero, suc, ◌+◌, ◌*◌, ◌<◌, ◌≤◌, min, List, length, take, get_or, sym, ap, ◌∙◌, arith, inl, inr}
use Rattle.std.specs.Char.{digit_value}
use Rattle.std.specs.Str.Parse.{digits_value}
use Rattle.std.proofs.Math.Nat.{mul-le-mul_left}
use Rattle.std.proofs.lemmas.Bool.{cases_lt}
use Rattle.std.proofs.lemmas.Int.Digits.{digits_value_more}

below : (v r d most : ℕ) → v < most → min (min (v * r) most + d) most ≡ min (v * r + d) most
below v r d most h = omega arith

beyond : (p q most d : ℕ) → most ≤ p → most ≤ q → min (min p most + d) most ≡ min (q + d) most
beyond p q most d h l = omega arith

-- the greatest count, and a digit more
pub saturated : (v r d most c : ℕ) → 1 ≤ r → c ≡ min v most → min (min (c * r) most + d) most ≡ min (v * r + d) most
saturated v zero d most c l e = absurd (omega arith)
saturated v (suc r) d most c l e =
    elim (cases_lt v most) [
      | inl h ↦ (let same : c ≡ v = omega arith in ap (λ (x : ℕ). min (min (x * suc r) most + d) most) same ∙ below v (suc r) d most h)
      | inr h ↦ (
          let same : c ≡ most = omega arith in
          let far : suc r * most ≤ suc r * v = mul-le-mul_left (suc r) h in
          ap (λ (x : ℕ). min (min (x * suc r) most + d) most) same ∙ beyond (most * suc r) (v * suc r) most d (omega arith) (omega arith))
    ]

pub counted_more : (radix : ℕ) (bs : List ℕ) (i c most : ℕ) → 1 ≤ radix → i < length bs → c ≡ min (digits_value radix (take i bs)) most
    → min (min (c * radix) most + digit_value (get_or bs i 0)) most ≡ min (digits_value radix (take (i + 1) bs)) most
counted_more radix bs i c most l h e =
    saturated (digits_value radix (take i bs)) radix (digit_value (get_or bs i 0)) most c l e
    ∙ ap (λ (n : ℕ). min n most) (sym (digits_value_more radix bs i h))
