-- The parts of bytes, one after another.
use Rattle.std.proofs.Common.{◌≡◌, ℕ, zero, suc, ◌+◌, ◌<◌, Bool, true, false, cond, List, [], ◌∷◌, length, take, drop, get_or, refl, sym, ◌∙◌, ap, arith}
use Rattle.std.specs.Prelude.{◌||◌}
use Rattle.std.specs.List.{list_any}
use Rattle.memchr.specs.Find.{Nowhere, NoneBefore, Passes}
use Rattle.util_text.specs.Lines.{onto}
use Rattle.util_text.specs.Parts.{parts}

false_from_not : (b : Bool) → (b ≡ true → ⊥) → b ≡ false
false_from_not true clear = absurd (clear refl)
false_from_not false clear = refl

or-true : (b : Bool) → (b || true) ≡ true
or-true true = refl
or-true false = refl

parts-at : (test : ℕ → Bool) (text : List ℕ) (k : ℕ) → k < length text → ((j : ℕ) → j < k → test (get_or text j 0) ≡ true → ⊥) →
    test (get_or text k 0) ≡ true → parts test text ≡ take k text ∷ parts test (drop (suc k) text)
parts-at test [] k h clear here = absurd (omega arith)
parts-at test (b ∷ bs) zero h clear here = ap (λ (c : Bool). cond c ([] ∷ parts test bs) (onto b (parts test bs))) here
parts-at test (b ∷ bs) (suc k) h clear here =
    ap (λ (c : Bool). cond c ([] ∷ parts test bs) (onto b (parts test bs))) (false_from_not (test b) (clear 0 (omega arith)))
    ∙ ap (λ (ps : List (List ℕ)). onto b ps) (parts-at test bs k (omega arith) (λ j l. clear (suc j) (omega arith)) here)

parts-whole : (test : ℕ → Bool) (text : List ℕ) → ((j : ℕ) → j < length text → test (get_or text j 0) ≡ true → ⊥) → parts test text ≡ text ∷ []
parts-whole test [] clear = refl
parts-whole test (b ∷ bs) clear =
    ap (λ (c : Bool). cond c ([] ∷ parts test bs) (onto b (parts test bs))) (false_from_not (test b) (clear 0 (omega arith)))
    ∙ ap (λ (ps : List (List ℕ)). onto b ps) (parts-whole test bs (λ j l. clear (suc j) (omega arith)))

any-at : (test : ℕ → Bool) (text : List ℕ) (k : ℕ) → k < length text → test (get_or text k 0) ≡ true → list_any test text ≡ true
any-at test [] k h here = absurd (omega arith)
any-at test (b ∷ bs) zero h here = ap (λ (c : Bool). c || list_any test bs) here
any-at test (b ∷ bs) (suc k) h here = ap (λ (c : Bool). test b || c) (any-at test bs k (omega arith) here) ∙ or-true (test b)

any-whole : (test : ℕ → Bool) (text : List ℕ) → ((j : ℕ) → j < length text → test (get_or text j 0) ≡ true → ⊥) → list_any test text ≡ false
any-whole test [] clear = refl
any-whole test (b ∷ bs) clear =
    ap (λ (c : Bool). c || list_any test bs) (false_from_not (test b) (clear 0 (omega arith)))
    ∙ any-whole test bs (λ j l. clear (suc j) (omega arith))

pub part_found : (test : ℕ → Bool) (text front back : List ℕ) (k : ℕ) → NoneBefore (Passes test text) 0 (length text) k → Passes test text k →
    front ≡ take k text → back ≡ drop (k + 1) text → parts test text ≡ front ∷ parts test back
part_found test text front back k first here before behind =
    let next : suc k ≡ k + 1 = omega arith in
    parts-at test text k first.high (λ j l. first.before j (omega arith) l) here
    ∙ ap (λ (n : ℕ). take k text ∷ parts test (drop n text)) next
    ∙ ap (λ (u : List ℕ). u ∷ parts test (drop (k + 1) text)) (sym before)
    ∙ ap (λ (u : List ℕ). front ∷ parts test u) (sym behind)

pub part_missing : (test : ℕ → Bool) (text : List ℕ) → Nowhere (Passes test text) 0 (length text) → parts test text ≡ text ∷ []
part_missing test text clear = parts-whole test text (λ j l. clear j (omega arith) l)

pub any_found : (test : ℕ → Bool) (text : List ℕ) (k : ℕ) → NoneBefore (Passes test text) 0 (length text) k → Passes test text k →
    true ≡ list_any test text
any_found test text k first here = sym (any-at test text k first.high here)

pub any_missing : (test : ℕ → Bool) (text : List ℕ) → Nowhere (Passes test text) 0 (length text) → false ≡ list_any test text
any_missing test text clear = sym (any-whole test text (λ j l. clear j (omega arith) l))
