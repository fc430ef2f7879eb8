-- Digits without the zeros at their end.
use Rattle.std.proofs.Common.{◌≡◌, ℕ, zero, suc, ◌-◌, ◌<◌, ◌≤◌, Bool, true, false, cond, List, [], ◌∷◌, length, take, get_or, refl, sym, ◌∙◌, ap, eqb, arith}
use Rattle.std.proofs.lemmas.Bool.{eq-eqb, eqb-true}
use Rattle.std.proofs.lemmas.List.{take_all}
use Rattle.util_lines.specs.Decimals.{kept_before, without_zeros}

false_from : (b : Bool) → (b ≡ true → ⊥) → b ≡ false
false_from true clear = absurd (clear refl)
false_from false clear = refl

dropped : (ds : List ℕ) (k : ℕ) → k < length ds → get_or ds k 0 ≡ 48 → without_zeros (take (suc k) ds) ≡ without_zeros (take k ds)
dropped [] k h is = absurd (omega arith)
dropped (d ∷ []) zero h is = ap (λ (c : Bool). cond c [] (d ∷ [])) (eq-eqb d 48 is)
dropped (d ∷ e ∷ ds) zero h is = ap (λ (c : Bool). cond c [] (d ∷ [])) (eq-eqb d 48 is)
dropped (d ∷ ds) (suc k) h is = ap (λ (u : List ℕ). kept_before d u) (dropped ds k (omega arith) is)

kept : (ds : List ℕ) (k : ℕ) → k < length ds → (get_or ds k 0 ≡ 48 → ⊥) → without_zeros (take (suc k) ds) ≡ take (suc k) ds
kept [] k h other = absurd (omega arith)
kept (d ∷ []) zero h other = ap (λ (c : Bool). cond c [] (d ∷ [])) (false_from (eqb d 48) (λ is. other (eqb-true d 48 is)))
kept (d ∷ e ∷ ds) zero h other = ap (λ (c : Bool). cond c [] (d ∷ [])) (false_from (eqb d 48) (λ is. other (eqb-true d 48 is)))
kept (d ∷ []) (suc k) h other = absurd (omega arith)
kept (d ∷ e ∷ ds) (suc k) h other = ap (λ (u : List ℕ). kept_before d u) (kept (e ∷ ds) k (omega arith) other)

pub zero_dropped : (ds : List ℕ) (len : ℕ) → 0 < len → len ≤ length ds → get_or ds (len - 1) 0 ≡ 48 → without_zeros (take len ds) ≡ without_zeros (take (len - 1) ds)
zero_dropped ds zero h i is = absurd (omega arith)
zero_dropped ds (suc k) h i is =
    let less : suc k - 1 ≡ k = omega arith in
    dropped ds k (omega arith) (ap (λ (j : ℕ). get_or ds j 0) (sym less) ∙ is) ∙ ap (λ (j : ℕ). without_zeros (take j ds)) (sym less)

pub zeros_done : (ds : List ℕ) (len : ℕ) → 0 < len → len ≤ length ds → (get_or ds (len - 1) 0 ≡ 48 → ⊥) → without_zeros (take len ds) ≡ take len ds
zeros_done ds zero h i other = absurd (omega arith)
zeros_done ds (suc k) h i other =
    let less : suc k - 1 ≡ k = omega arith in
    kept ds k (omega arith) (λ is. other (ap (λ (j : ℕ). get_or ds j 0) less ∙ is))

pub zeros_none : (ds : List ℕ) → without_zeros (take 0 ds) ≡ take 0 ds
zeros_none [] = refl
zeros_none (d ∷ ds) = refl

pub zeros_begin : (ds : List ℕ) → without_zeros (take (length ds) ds) ≡ without_zeros ds
zeros_begin ds = ap (λ (u : List ℕ). without_zeros u) (take_all (length ds) ds (omega arith))
