-- The lines of a text, by its first and by its last one.
use Rattle.std.proofs.Common.{◌≡◌, ℕ, zero, suc, ◌+◌, ◌-◌, ◌<◌, ◌≤◌, min, Bool, true, false, cond, List, [], ◌∷◌, ◌++◌, length, take, drop, get_or, refl, sym, ◌∙◌, ap, eqb, arith, append-nil, append_assoc, length-take, length-drop}
use Rattle.std.specs.List.{concat}
use Rattle.std.proofs.lemmas.List.{take_all, drop_all, get_or-take}
use Rattle.memchr.specs.Find.{Nowhere, NoneBefore, NoneAfter, Passes, is_byte}
use Rattle.util_text.specs.Lines.{onto, pieces, lines}

false_from_not : (b : Bool) → (b ≡ true → ⊥) → b ≡ false
false_from_not true clear = absurd (clear refl)
false_from_not false clear = refl

pub some-from_test : (text : List ℕ) → eqb (length text) 0 ≡ false → 0 < length text
some-from_test [] is = cc
some-from_test (b ∷ bs) is = omega arith

-- ---- the first line, which ends at a newline

pieces-newline : (text : List ℕ) (k : ℕ) → k < length text → ((j : ℕ) → j < k → eqb (get_or text j 0) 10 ≡ true → ⊥) →
    eqb (get_or text k 0) 10 ≡ true → pieces text ≡ take (suc k) text ∷ pieces (drop (suc k) text)
pieces-newline [] k h clear here = absurd (omega arith)
pieces-newline (b ∷ bs) zero h clear here = ap (λ (c : Bool). cond c ((b ∷ []) ∷ pieces bs) (onto b (pieces bs))) here
pieces-newline (b ∷ bs) (suc k) h clear here =
    ap (λ (c : Bool). cond c ((b ∷ []) ∷ pieces bs) (onto b (pieces bs))) (false_from_not (eqb b 10) (clear 0 (omega arith)))
    ∙ ap (λ (ps : List (List ℕ)). onto b ps) (pieces-newline bs k (omega arith) (λ j l. clear (suc j) (omega arith)) here)

lines-newline : (text : List ℕ) (k : ℕ) → k < length text → ((j : ℕ) → j < k → eqb (get_or text j 0) 10 ≡ true → ⊥) →
    eqb (get_or text k 0) 10 ≡ true → lines text ≡ take k text ∷ lines (drop (suc k) text)
lines-newline [] k h clear here = absurd (omega arith)
lines-newline (b ∷ bs) zero h clear here = ap (λ (c : Bool). cond c ([] ∷ lines bs) (onto b (lines bs))) here
lines-newline (b ∷ bs) (suc k) h clear here =
    ap (λ (c : Bool). cond c ([] ∷ lines bs) (onto b (lines bs))) (false_from_not (eqb b 10) (clear 0 (omega arith)))
    ∙ ap (λ (ps : List (List ℕ)). onto b ps) (lines-newline bs k (omega arith) (λ j l. clear (suc j) (omega arith)) here)

pub pieces_found : (text : List ℕ) (k : ℕ) → NoneBefore (Passes (is_byte 10) text) 0 (length text) k → Passes (is_byte 10) text k →
    pieces text ≡ take (k + 1) text ∷ pieces (drop (k + 1) text)
pieces_found text k first here =
    let next : suc k ≡ k + 1 = omega arith in
    pieces-newline text k first.high (λ j l. first.before j (omega arith) l) here
    ∙ ap (λ (n : ℕ). take n text ∷ pieces (drop n text)) next

pub lines_found : (text : List ℕ) (k : ℕ) → NoneBefore (Passes (is_byte 10) text) 0 (length text) k → Passes (is_byte 10) text k →
    lines text ≡ take k text ∷ lines (drop (k + 1) text)
lines_found text k first here =
    let next : suc k ≡ k + 1 = omega arith in
    lines-newline text k first.high (λ j l. first.before j (omega arith) l) here
    ∙ ap (λ (n : ℕ). take k text ∷ lines (drop n text)) next

-- ---- the only line

cond-same : (c : Bool) (ps : List (List ℕ)) → cond c ps ps ≡ ps
cond-same true ps = refl
cond-same false ps = refl

pieces-single : (text : List ℕ) → 0 < length text → ((j : ℕ) → j + 1 < length text → eqb (get_or text j 0) 10 ≡ true → ⊥) → pieces text ≡ text ∷ []
pieces-single [] h clear = absurd (omega arith)
pieces-single (b ∷ []) h clear = cond-same (eqb b 10) ((b ∷ []) ∷ [])
pieces-single (b ∷ c ∷ bs) h clear =
    ap (λ (e : Bool). cond e ((b ∷ []) ∷ pieces (c ∷ bs)) (onto b (pieces (c ∷ bs)))) (false_from_not (eqb b 10) (clear 0 (omega arith)))
    ∙ ap (λ (ps : List (List ℕ)). onto b ps) (pieces-single (c ∷ bs) (omega arith) (λ j l. clear (suc j) (omega arith)))

lines-single : (text : List ℕ) → 0 < length text → ((j : ℕ) → j < length text → eqb (get_or text j 0) 10 ≡ true → ⊥) → lines text ≡ text ∷ []
lines-single [] h clear = absurd (omega arith)
lines-single (b ∷ []) h clear =
    ap (λ (e : Bool). cond e ([] ∷ []) ((b ∷ []) ∷ [])) (false_from_not (eqb b 10) (clear 0 (omega arith)))
lines-single (b ∷ c ∷ bs) h clear =
    ap (λ (e : Bool). cond e ([] ∷ lines (c ∷ bs)) (onto b (lines (c ∷ bs)))) (false_from_not (eqb b 10) (clear 0 (omega arith)))
    ∙ ap (λ (ps : List (List ℕ)). onto b ps) (lines-single (c ∷ bs) (omega arith) (λ j l. clear (suc j) (omega arith)))

pub pieces_missing : (text : List ℕ) → Nowhere (Passes (is_byte 10) text) 0 (length text) → 0 < length text →
    pieces text ≡ take (length text) text ∷ pieces (drop (length text) text)
pieces_missing text clear h =
    pieces-single text h (λ j l. clear j (omega arith) (omega arith))
    ∙ ap (λ (u : List ℕ). u ∷ []) (sym (take_all (length text) text (omega arith)))
    ∙ ap (λ (u : List ℕ). take (length text) text ∷ pieces u) (sym (drop_all (length text) text (omega arith)))

pub lines_missing : (text : List ℕ) → Nowhere (Passes (is_byte 10) text) 0 (length text) → 0 < length text →
    lines text ≡ text ∷ lines (drop (length text) text)
lines_missing text clear h =
    lines-single text h (λ j l. clear j (omega arith) l)
    ∙ ap (λ (u : List ℕ). text ∷ lines u) (sym (drop_all (length text) text (omega arith)))

-- ---- the last line

onto-some : (b : ℕ) (ps : List (List ℕ)) → 0 < length (onto b ps)
onto-some b [] = omega arith
onto-some b (p ∷ ps) = omega arith

some-cond : (c : Bool) (b : ℕ) (ps : List (List ℕ)) → 0 < length (cond c ((b ∷ []) ∷ ps) (onto b ps))
some-cond true b ps = omega arith
some-cond false b ps = onto-some b ps

pieces-some : (text : List ℕ) → 0 < length text → 0 < length (pieces text)
pieces-some [] h = absurd (omega arith)
pieces-some (b ∷ bs) h = some-cond (eqb b 10) b (pieces bs)

onto-append : (b : ℕ) (ps qs : List (List ℕ)) → 0 < length ps → onto b (ps ++ qs) ≡ onto b ps ++ qs
onto-append b [] qs h = absurd (omega arith)
onto-append b (p ∷ ps) qs h = refl

cond-append : (c : Bool) (b : ℕ) (ps qs : List (List ℕ)) → 0 < length ps →
    cond c ((b ∷ []) ∷ (ps ++ qs)) (onto b (ps ++ qs)) ≡ cond c ((b ∷ []) ∷ ps) (onto b ps) ++ qs
cond-append true b ps qs h = refl
cond-append false b ps qs h = onto-append b ps qs h

pieces-back : (text : List ℕ) (k : ℕ) → k + 1 < length text → eqb (get_or text k 0) 10 ≡ true →
    ((j : ℕ) → k < j → j + 1 < length text → eqb (get_or text j 0) 10 ≡ true → ⊥) →
    pieces text ≡ pieces (take (suc k) text) ++ drop (suc k) text ∷ []
pieces-back [] k h here clear = absurd (omega arith)
pieces-back (b ∷ bs) zero h here clear =
    ap (λ (e : Bool). cond e ((b ∷ []) ∷ pieces bs) (onto b (pieces bs))) here
    ∙ ap (λ (ps : List (List ℕ)). (b ∷ []) ∷ ps) (pieces-single bs (omega arith) (λ j l. clear (suc j) (omega arith) (omega arith)))
    ∙ ap (λ (e : Bool). cond e ((b ∷ []) ∷ []) ((b ∷ []) ∷ []) ++ bs ∷ []) (sym here)
pieces-back (b ∷ bs) (suc k) h here clear =
    ap (λ (ps : List (List ℕ)). cond (eqb b 10) ((b ∷ []) ∷ ps) (onto b ps))
    (pieces-back bs k (omega arith) here (λ j l m. clear (suc j) (omega arith) (omega arith)))
    ∙ cond-append (eqb b 10) b (pieces (take (suc k) bs)) (drop (suc k) bs ∷ [])
    (pieces-some (take (suc k) bs) (omega (arith, length-take (suc k) bs)))

pub back_found : (text front : List ℕ) (k : ℕ) → front ≡ take (length text - 1) text →
    NoneAfter (Passes (is_byte 10) front) 0 (length front) k → Passes (is_byte 10) front k →
    pieces text ≡ pieces (take (k + 1) text) ++ drop (k + 1) text ∷ []
back_found text front k is last here =
    let len : length front ≡ min (length text - 1) (length text) = ap (λ (u : List ℕ). length u) is ∙ length-take (length text - 1) text in
    let at : (j : ℕ) → j < length front → get_or front j 0 ≡ get_or text j 0 =
    λ j l. ap (λ (u : List ℕ). get_or u j 0) is ∙ get_or-take (length text - 1) text j 0 (omega arith) in
    let next : suc k ≡ k + 1 = omega arith in
    pieces-back text k (omega (arith, last.high)) (ap (λ (x : ℕ). eqb x 10) (sym (at k last.high)) ∙ here)
    (λ j l m newline. last.after j (omega arith) (omega arith) (ap (λ (x : ℕ). eqb x 10) (at j (omega arith)) ∙ newline))
    ∙ ap (λ (n : ℕ). pieces (take n text) ++ drop n text ∷ []) next

pub back_missing : (text front : List ℕ) → front ≡ take (length text - 1) text → Nowhere (Passes (is_byte 10) front) 0 (length front) →
    0 < length text → pieces text ≡ pieces (take 0 text) ++ drop 0 text ∷ []
back_missing text front is clear h =
    let len : length front ≡ min (length text - 1) (length text) = ap (λ (u : List ℕ). length u) is ∙ length-take (length text - 1) text in
    let at : (j : ℕ) → j < length front → get_or front j 0 ≡ get_or text j 0 =
    λ j l. ap (λ (u : List ℕ). get_or u j 0) is ∙ get_or-take (length text - 1) text j 0 (omega arith) in
    pieces-single text h (λ j l newline. clear j (omega arith) (omega arith) (ap (λ (x : ℕ). eqb x 10) (at j (omega arith)) ∙ newline))

-- ---- all lines

concat-onto : (b : ℕ) (ps : List (List ℕ)) → concat (onto b ps) ≡ b ∷ concat ps
concat-onto b [] = refl
concat-onto b (p ∷ ps) = refl

concat-cond : (c : Bool) (b : ℕ) (ps : List (List ℕ)) → concat (cond c ((b ∷ []) ∷ ps) (onto b ps)) ≡ b ∷ concat ps
concat-cond true b ps = refl
concat-cond false b ps = concat-onto b ps

pub concat-pieces : (text : List ℕ) → concat (pieces text) ≡ text
concat-pieces [] = refl
concat-pieces (b ∷ bs) = concat-cond (eqb b 10) b (pieces bs) ∙ ap (λ (u : List ℕ). b ∷ u) (concat-pieces bs)

pub concat-push : (ps : List (List ℕ)) (p : List ℕ) → concat (ps ++ p ∷ []) ≡ concat ps ++ p
concat-push [] p = append-nil p
concat-push (q ∷ ps) p = ap (λ (u : List ℕ). q ++ u) (concat-push ps p) ∙ sym (append_assoc q (concat ps) p)

length-onto : (b : ℕ) (ps : List (List ℕ)) → length (onto b ps) ≤ suc (length ps)
length-onto b [] = omega arith
length-onto b (p ∷ ps) = omega arith

length-cond : (c : Bool) (b : ℕ) (ps : List (List ℕ)) → length (cond c ((b ∷ []) ∷ ps) (onto b ps)) ≤ suc (length ps)
length-cond true b ps = omega arith
length-cond false b ps = length-onto b ps

pub length-pieces : (text : List ℕ) → length (pieces text) ≤ length text
length-pieces [] = omega arith
length-pieces (b ∷ bs) = omega (arith, length-pieces bs, length-cond (eqb b 10) b (pieces bs))
