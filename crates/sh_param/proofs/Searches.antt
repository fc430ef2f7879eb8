-- The least and the greatest number for which a test holds.
use Rattle.std.proofs.Common.{◌≡◌, ℕ, zero, suc, ◌+◌, ◌<◌, ◌≤◌, Bool, true, false, cond, eqb, T, refl, sym, ap, ◌∙◌, subst, arith, below_more}
use Rattle.std.specs.Prelude.{Option, Some, None}
use Rattle.std.proofs.lemmas.Bool.{eqb-true, eqb-false}
use Rattle.sh_pattern.specs.Match.{IsLeast, IsGreatest}
use Rattle.sh_param.specs.Trims.{least_from, least, greatest}

both : (b : Bool) → b ≡ true → b ≡ false → ⊥
both b t f = subst T (sym t ∙ f) tt

abbrev NoneBelow : (ℕ → Bool) → ℕ → Type 0
NoneBelow test k = (j : ℕ) → j < k → test j ≡ false

-- ---- the least one

same_least : (test : ℕ → Bool) (k m : ℕ) → NoneBelow test k → test k ≡ true → test m ≡ true → NoneBelow test m → m ≡ k
same_least test k m none hit at_m below =
    let a : m < k → ⊥ = λ l. both (test m) at_m (none m l) in
    let b : k < m → ⊥ = λ l. both (test k) hit (below k l) in
    omega (arith, a, b)

hit_least : (test : ℕ → Bool) (k last : ℕ) (r : Option ℕ) → k ≤ last → NoneBelow test k → test k ≡ true → IsLeast test last r → r ≡ Some k
hit_least test k last None le none hit h = absurd (both (test k) hit (h k le))
hit_least test k last (Some m) le none hit h = ap Some (same_least test k m none hit h.1 h.2)

miss_least : (test : ℕ → Bool) (k : ℕ) (r : Option ℕ) → NoneBelow test k → test k ≡ false → IsLeast test k r → r ≡ None
miss_least test k None none miss h = refl
miss_least test k (Some m) none miss h =
    let below : NoneBelow test (k + 1) = below_more (λ (j : ℕ). test j ≡ false) k none miss in
    absurd (both (test m) h.1 (below m (omega (arith, h.0))))

least_end : (test : ℕ → Bool) (k : ℕ) (r : Option ℕ) (b : Bool) → test k ≡ b → NoneBelow test k → IsLeast test k r → r ≡ cond b (Some k) None
least_end test k r true e none h = hit_least test k k r (omega arith) none e h
least_end test k r false e none h = miss_least test k r none e h

abbrev FindsLeast : (ℕ → Bool) → ℕ → ℕ → Type 0
FindsLeast test k n = (r : Option ℕ) → NoneBelow test k → IsLeast test (k + n) r → r ≡ least_from test k n

least_on : (test : ℕ → Bool) (k n : ℕ) (r : Option ℕ) (b : Bool) → test k ≡ b → NoneBelow test k → IsLeast test (k + suc n) r → FindsLeast test (k + 1) n → r ≡ cond b (Some k) (least_from test (k + 1) n)
least_on test k n r true e none h finds = hit_least test k (k + suc n) r (omega arith) none e h
least_on test k n r false e none h finds =
    finds r (below_more (λ (j : ℕ). test j ≡ false) k none e) (let same : k + suc n ≡ k + 1 + n = omega arith in subst (λ (last : ℕ). IsLeast test last r) same h)

least_of : (test : ℕ → Bool) (n k : ℕ) → FindsLeast test k n
least_of test zero k r none h = least_end test k r (test k) refl none (let same : k + 0 ≡ k = omega arith in subst (λ (last : ℕ). IsLeast test last r) same h)
least_of test (suc n) k r none h = least_on test k n r (test k) refl none h (least_of test n (k + 1))

pub least_is : (test : ℕ → Bool) (last : ℕ) (r : Option ℕ) → IsLeast test last r → r ≡ least test last
least_is test last r h = least_of test last 0 r (λ j l. absurd (omega (arith, l))) (let same : last ≡ 0 + last = omega arith in subst (λ (n : ℕ). IsLeast test n r) same h)

-- ---- the greatest one

abbrev NoneAbove : (ℕ → Bool) → ℕ → ℕ → Type 0
NoneAbove test k last = (j : ℕ) → k < j → j ≤ last → test j ≡ false

same_greatest : (test : ℕ → Bool) (k m last : ℕ) → k ≤ last → m ≤ last → NoneAbove test k last → test k ≡ true → test m ≡ true → NoneAbove test m last → m ≡ k
same_greatest test k m last le me none hit at_m above =
    let a : k < m → ⊥ = λ l. both (test m) at_m (none m l me) in
    let b : m < k → ⊥ = λ l. both (test k) hit (above k l le) in
    omega (arith, a, b)

hit_greatest : (test : ℕ → Bool) (k last : ℕ) (r : Option ℕ) → k ≤ last → NoneAbove test k last → test k ≡ true → IsGreatest test last r → r ≡ Some k
hit_greatest test k last None le none hit h = absurd (both (test k) hit (h k le))
hit_greatest test k last (Some m) le none hit h = ap Some (same_greatest test k m last le h.0 none hit h.1 h.2)

nowhere : (test : ℕ → Bool) (last : ℕ) → NoneAbove test 0 last → test 0 ≡ false → (j : ℕ) → j ≤ last → test j ≡ false
nowhere test last none miss zero l = miss
nowhere test last none miss (suc j) l = none (suc j) (omega arith) l

miss_greatest : (test : ℕ → Bool) (last : ℕ) (r : Option ℕ) → NoneAbove test 0 last → test 0 ≡ false → IsGreatest test last r → r ≡ None
miss_greatest test last None none miss h = refl
miss_greatest test last (Some m) none miss h = absurd (both (test m) h.1 (nowhere test last none miss m h.0))

above_case : (test : ℕ → Bool) (n last : ℕ) → NoneAbove test (suc n) last → test (suc n) ≡ false → (j : ℕ) → n < j → j ≤ last → (b : Bool) → eqb j (suc n) ≡ b → test j ≡ false
above_case test n last none miss j l le true e = subst (λ (i : ℕ). test i ≡ false) (sym (eqb-true j (suc n) e)) miss
above_case test n last none miss j l le false e = let ne : j ≡ suc n → ⊥ = eqb-false j (suc n) e in none j (omega (arith, ne)) le

above_more : (test : ℕ → Bool) (n last : ℕ) → NoneAbove test (suc n) last → test (suc n) ≡ false → NoneAbove test n last
above_more test n last none miss j l le = above_case test n last none miss j l le (eqb j (suc n)) refl

abbrev FindsGreatest : (ℕ → Bool) → ℕ → ℕ → Type 0
FindsGreatest test last n = (r : Option ℕ) → n ≤ last → NoneAbove test n last → IsGreatest test last r → r ≡ greatest test n

greatest_on : (test : ℕ → Bool) (n last : ℕ) (r : Option ℕ) (b : Bool) → test (suc n) ≡ b → suc n ≤ last → NoneAbove test (suc n) last → IsGreatest test last r → FindsGreatest test last n → r ≡ cond b (Some (suc n)) (greatest test n)
greatest_on test n last r true e le none h finds = hit_greatest test (suc n) last r le none e h
greatest_on test n last r false e le none h finds = finds r (omega arith) (above_more test n last none e) h

greatest_end : (test : ℕ → Bool) (last : ℕ) (r : Option ℕ) (b : Bool) → test 0 ≡ b → NoneAbove test 0 last → IsGreatest test last r → r ≡ cond b (Some 0) None
greatest_end test last r true e none h = hit_greatest test 0 last r (omega arith) none e h
greatest_end test last r false e none h = miss_greatest test last r none e h

greatest_of : (test : ℕ → Bool) (last n : ℕ) → FindsGreatest test last n
greatest_of test last zero r le none h = greatest_end test last r (test 0) refl none h
greatest_of test last (suc n) r le none h = greatest_on test n last r (test (suc n)) refl le none h (greatest_of test last n)

pub greatest_is : (test : ℕ → Bool) (last : ℕ) (r : Option ℕ) → IsGreatest test last r → r ≡ greatest test last
greatest_is test last r h = greatest_of test last last r (omega arith) (λ j l le. absurd (omega (arith, l, le))) h
