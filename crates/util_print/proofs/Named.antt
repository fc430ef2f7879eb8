-- Paths that are written, and their last slash.
use Rattle.std.proofs.Common.{◌≡◌, ℕ, zero, suc, ◌+◌, ◌<◌, Bool, true, false, cond, eqb, List, [], ◌∷◌, ◌++◌, length, take, drop, get_or, refl, sym, ap, ◌∙◌, arith}
use Rattle.std.specs.Prelude.{◌||◌}
use Rattle.memchr.specs.Find.{NoneAfter, Nowhere, Passes, is_byte}
use Rattle.util_print.specs.Naming.{before, before_slash, behind_slash, folder_in, has_slash, or_slash, without_slashes}

-- ---- slashes at the end

-- a slash more
pub slash_more : (bs : List ℕ) → without_slashes (bs ++ 47 ∷ []) ≡ without_slashes bs
slash_more [] = refl
slash_more (b ∷ bs) = ap (λ (u : List ℕ). before b u) (slash_more bs)

before_some : (b : ℕ) (bs : List ℕ) (c : ℕ) → before b (bs ++ c ∷ []) ≡ b ∷ (bs ++ c ∷ [])
before_some b [] c = refl
before_some b (d ∷ ds) c = refl

-- no slash at the end
pub no_slash : (bs : List ℕ) (c : ℕ) → eqb c 47 ≡ false → without_slashes (bs ++ c ∷ []) ≡ bs ++ c ∷ []
no_slash [] c h = ap (λ (e : Bool). cond e [] (c ∷ [])) h
no_slash (b ∷ bs) c h = ap (λ (u : List ℕ). before b u) (no_slash bs c h) ∙ before_some b bs c

-- ---- the last slash

true_false : true ≡ false → ⊥
true_false h = cc

not_true : (b : Bool) → (b ≡ true → ⊥) → b ≡ false
not_true true h = absurd (h refl)
not_true false h = refl

clear : (bs : List ℕ) → ((j : ℕ) → j < length bs → eqb (get_or bs j 0) 47 ≡ true → ⊥) → has_slash bs ≡ false
clear [] h = refl
clear (b ∷ bs) h =
    ap (λ (e : Bool). e || has_slash bs) (not_true (eqb b 47) (h 0 (omega arith)))
    ∙ clear bs (λ j l. h (suc j) (omega arith))

behind_clear : (bs : List ℕ) → has_slash bs ≡ false → behind_slash bs ≡ bs
behind_clear [] h = refl
behind_clear (b ∷ bs) h = ap (λ (e : Bool). cond e (behind_slash bs) (b ∷ bs)) h

or_true : (a b : Bool) → b ≡ true → (a || b) ≡ true
or_true true b h = refl
or_true false b h = h

at_last : (bs : List ℕ) (k : ℕ) → k < length bs → eqb (get_or bs k 0) 47 ≡ true → ((j : ℕ) → k < j → j < length bs → eqb (get_or bs j 0) 47 ≡ true → ⊥)
    → (has_slash bs ≡ true) × (behind_slash bs ≡ drop (suc k) bs) × (before_slash bs ≡ take k bs)
at_last [] k h here after = absurd (omega arith)
at_last (b ∷ bs) zero h here after =
    let none : has_slash bs ≡ false = clear bs (λ j l. after (suc j) (omega arith) (omega arith)) in
    let some : has_slash (b ∷ bs) ≡ true = ap (λ (e : Bool). e || has_slash bs) here in (
      some,
      ap (λ (e : Bool). cond e (behind_slash bs) (b ∷ bs)) some ∙ behind_clear bs none,
      ap (λ (e : Bool). cond e (b ∷ before_slash bs) []) none,
    )
at_last (b ∷ bs) (suc k) h here after =
    let t = at_last bs k (omega arith) here (λ j l m. after (suc j) (omega arith) (omega arith)) in
    let some : has_slash (b ∷ bs) ≡ true = or_true (eqb b 47) (has_slash bs) t.0 in (
      some,
      ap (λ (e : Bool). cond e (behind_slash bs) (b ∷ bs)) some ∙ t.1,
      ap (λ (e : Bool). cond e (b ∷ before_slash bs) []) t.0 ∙ ap (λ (u : List ℕ). b ∷ u) t.2,
    )

-- where a search from the end finds it
pub found : (bs : List ℕ) (k : ℕ) → NoneAfter (Passes (is_byte 47) bs) 0 (length bs) k → Passes (is_byte 47) bs k
    → (has_slash bs ≡ true) × (behind_slash bs ≡ drop (k + 1) bs) × (before_slash bs ≡ take k bs)
found bs k last here =
    let t = at_last bs k last.high here (λ j l m. last.after j (omega arith) m) in
    let next : suc k ≡ k + 1 = omega arith in
    (t.0, t.1 ∙ ap (λ (n : ℕ). drop n bs) next, t.2)

pub missing : (bs : List ℕ) → Nowhere (Passes (is_byte 47) bs) 0 (length bs) → has_slash bs ≡ false
missing bs h = clear bs (λ j l. h j (omega arith) l)

pub all_behind : (bs : List ℕ) → Nowhere (Passes (is_byte 47) bs) 0 (length bs) → behind_slash bs ≡ bs
all_behind bs h = behind_clear bs (missing bs h)

-- ---- the folder

pub folder_found : (bs : List ℕ) (k : ℕ) → NoneAfter (Passes (is_byte 47) bs) 0 (length bs) k → Passes (is_byte 47) bs k → or_slash (without_slashes (take k bs)) ≡ folder_in bs
folder_found [] k last here = absurd (omega (arith, last.high))
folder_found (b ∷ bs) k last here =
    let t = found (b ∷ bs) k last here in
    ap (λ (u : List ℕ). or_slash (without_slashes u)) (sym t.2)
    ∙ ap (λ (e : Bool). cond e (or_slash (without_slashes (before_slash (b ∷ bs)))) (46 ∷ [])) (sym t.0)

pub folder_missing : (bs : List ℕ) → 0 < length bs → Nowhere (Passes (is_byte 47) bs) 0 (length bs) → 46 ∷ [] ≡ folder_in bs
folder_missing [] l h = absurd (omega arith)
folder_missing (b ∷ bs) l h = ap (λ (e : Bool). cond e (or_slash (without_slashes (before_slash (b ∷ bs)))) (46 ∷ [])) (sym (missing (b ∷ bs) h))

pub long : (bs : List ℕ) (empty : Bool) → empty ≡ eqb (length bs) 0 → empty ≡ false → 0 < length bs
long [] empty e h = absurd (true_false (sym e ∙ h))
long (b ∷ bs) empty e h = omega arith
