-- The lines of a text, by its first one.
use Rattle.std.proofs.Common.{◌≡◌, ℕ, zero, suc, ◌+◌, ◌<◌, Bool, true, false, cond, List, [], ◌∷◌, length, take, drop, get_or, refl, sym, ◌∙◌, ap, eqb, arith}
use Rattle.std.proofs.lemmas.List.{drop_all}
use Rattle.memchr.specs.Find.{Nowhere, NoneBefore, Passes, is_byte}
use Rattle.util_lines.specs.Splitting.{onto, lines}

false_from_not : (b : Bool) → (b ≡ true → ⊥) → b ≡ false
false_from_not true clear = absurd (clear refl)
false_from_not false clear = refl

pub some-from_test : (text : List ℕ) → eqb (length text) 0 ≡ false → 0 < length text
some-from_test [] is = cc
some-from_test (b ∷ bs) is = omega arith

lines-newline : (text : List ℕ) (k : ℕ) → k < length text → ((j : ℕ) → j < k → eqb (get_or text j 0) 10 ≡ true → ⊥) →
    eqb (get_or text k 0) 10 ≡ true → lines text ≡ take k text ∷ lines (drop (suc k) text)
lines-newline [] k h clear here = absurd (omega arith)
lines-newline (b ∷ bs) zero h clear here = ap (λ (c : Bool). cond c ([] ∷ lines bs) (onto b (lines bs))) here
lines-newline (b ∷ bs) (suc k) h clear here =
    ap (λ (c : Bool). cond c ([] ∷ lines bs) (onto b (lines bs))) (false_from_not (eqb b 10) (clear 0 (omega arith)))
    ∙ ap (λ (ps : List (List ℕ)). onto b ps) (lines-newline bs k (omega arith) (λ j l. clear (suc j) (omega arith)) here)

pub lines_found : (text : List ℕ) (k : ℕ) → NoneBefore (Passes (is_byte 10) text) 0 (length text) k → Passes (is_byte 10) text k →
    lines text ≡ take k text ∷ lines (drop (k + 1) text)
lines_found text k first here =
    let next : suc k ≡ k + 1 = omega arith in
    lines-newline text k first.high (λ j l. first.before j (omega arith) l) here
    ∙ ap (λ (n : ℕ). take k text ∷ lines (drop n text)) next

lines-single : (text : List ℕ) → 0 < length text → ((j : ℕ) → j < length text → eqb (get_or text j 0) 10 ≡ true → ⊥) → lines text ≡ text ∷ []
lines-single [] h clear = absurd (omega arith)
lines-single (b ∷ []) h clear =
    ap (λ (e : Bool). cond e ([] ∷ []) ((b ∷ []) ∷ [])) (false_from_not (eqb b 10) (clear 0 (omega arith)))
lines-single (b ∷ c ∷ bs) h clear =
    ap (λ (e : Bool). cond e ([] ∷ lines (c ∷ bs)) (onto b (lines (c ∷ bs)))) (false_from_not (eqb b 10) (clear 0 (omega arith)))
    ∙ ap (λ (ps : List (List ℕ)). onto b ps) (lines-single (c ∷ bs) (omega arith) (λ j l. clear (suc j) (omega arith)))

pub lines_missing : (text : List ℕ) → Nowhere (Passes (is_byte 10) text) 0 (length text) → 0 < length text →
    lines text ≡ text ∷ lines (drop (length text) text)
lines_missing text clear h =
    lines-single text h (λ j l. clear j (omega arith) l)
    ∙ ap (λ (u : List ℕ). text ∷ lines u) (sym (drop_all (length text) text (omega arith)))
