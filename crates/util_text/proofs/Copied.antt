-- What `head` and `tail` copy, line by line.
use Rattle.std.proofs.Common.{◌≡◌, ◌⊎◌, inl, inr, ℕ, zero, suc, ◌+◌, ◌-◌, ◌^◌, ◌<◌, ◌≤◌, min, List, [], ◌∷◌, ◌++◌, length, take, drop, refl, sym, ◌∙◌, ap, arith, append-nil, append_assoc, length-take}
use Rattle.std.specs.List.{concat}
use Rattle.std.proofs.lemmas.List.{take_min, drop_min, take_all, drop_all, drop-drop, take-take, take-append-drop, drop-append-le, length_push}
use Rattle.util_text.specs.Lines.{pieces, first_lines, last_lines, lines_from}
use Rattle.util_text.specs.Count.{StandsFor}
use Rattle.util_text.proofs.Pieces.{concat-pieces, concat-push, length-pieces}

take-plus : (m n : ℕ) (xs : List ℕ) → take (m + n) xs ≡ take m xs ++ take n (drop m xs)
take-plus zero n xs = let e : zero + n ≡ n = omega arith in ap (λ (k : ℕ). take k xs) e
take-plus (suc m) n [] = take_all (suc m + n) [] (omega arith) ∙ sym (take_all n [] (omega arith))
take-plus (suc m) n (x ∷ xs) =
    let e : suc m + n ≡ suc (m + n) = omega arith in
    ap (λ (k : ℕ). take k (x ∷ xs)) e ∙ ap (λ (ys : List ℕ). x ∷ ys) (take-plus m n xs)

-- ---- counts that stand for numbers

pub first-stands : (text : List ℕ) (count n : ℕ) → length text < 2 ^ 64 → StandsFor count n → first_lines count text ≡ first_lines n text
first-stands text count n h stands =
    let ps = pieces text in
    let same : min count (length ps) ≡ min n (length ps) = omega (arith, length-pieces text) in
    ap (λ (qs : List (List ℕ)). concat qs) (sym (take_min count ps) ∙ ap (λ (m : ℕ). take m ps) same ∙ take_min n ps)

pub last-stands : (text : List ℕ) (count n : ℕ) → length text < 2 ^ 64 → StandsFor count n → last_lines count text ≡ last_lines n text
last-stands text count n h stands =
    let same : length (pieces text) - count ≡ length (pieces text) - n = omega (arith, length-pieces text) in
    ap (λ (m : ℕ). concat (drop m (pieces text))) same

pub from-stands : (text : List ℕ) (count n : ℕ) → length text < 2 ^ 63 → StandsFor count n → lines_from count text ≡ lines_from n text
from-stands text count n h stands =
    let ps = pieces text in
    let same : min (count - 1) (length ps) ≡ min (n - 1) (length ps) = omega (arith, length-pieces text) in
    ap (λ (qs : List (List ℕ)). concat qs) (sym (drop_min (count - 1) ps) ∙ ap (λ (m : ℕ). drop m ps) same ∙ drop_min (n - 1) ps)

-- ---- from the front: t is what is left behind `end`

one-more : (text t : List ℕ) (end r : ℕ) → t ≡ drop end text → pieces t ≡ take r t ∷ pieces (drop r t) →
    pieces (drop end text) ≡ take r (drop end text) ∷ pieces (drop (end + r) text)
one-more text t end r is line =
    ap (λ (u : List ℕ). pieces u) (sym is) ∙ line ∙ ap (λ (u : List ℕ). take r u ∷ pieces (drop r u)) is
    ∙ ap (λ (u : List ℕ). take r (drop end text) ∷ pieces u) (drop-drop r end text)

pub first-step : (text t : List ℕ) (end left r : ℕ) → t ≡ drop end text → 0 < left → pieces t ≡ take r t ∷ pieces (drop r t) →
    take end text ++ first_lines left (drop end text) ≡ take (end + r) text ++ first_lines (left - 1) (drop (end + r) text)
first-step text t end zero r is h line = absurd (omega arith)
first-step text t end (suc l) r is h line =
    let less : suc l - 1 ≡ l = omega arith in
    let rest = concat (take l (pieces (drop (end + r) text))) in
    ap (λ (ps : List (List ℕ)). take end text ++ concat (take (suc l) ps)) (one-more text t end r is line)
    ∙ sym (append_assoc (take end text) (take r (drop end text)) rest)
    ∙ ap (λ (u : List ℕ). u ++ rest) (sym (take-plus end r text))
    ∙ ap (λ (m : ℕ). take (end + r) text ++ concat (take m (pieces (drop (end + r) text)))) (sym less)

pub first-none : (text : List ℕ) (end : ℕ) → take end text ++ first_lines 0 (drop end text) ≡ take end text
first-none text end = append-nil (take end text)

pub first-all : (text : List ℕ) (left : ℕ) → take (length text) text ++ first_lines left (drop (length text) text) ≡ text
first-all text left =
    ap (λ (u : List ℕ). u ++ first_lines left (drop (length text) text)) (take_all (length text) text (omega arith))
    ∙ ap (λ (u : List ℕ). text ++ first_lines left u) (drop_all (length text) text (omega arith))
    ∙ ap (λ (ps : List (List ℕ)). text ++ concat ps) (take_all left [] (omega arith))
    ∙ append-nil text

pub from-done : (text : List ℕ) (start left : ℕ) → (left ≡ 0) ⊎ (length text ≤ start) → concat (drop left (pieces (drop start text))) ≡ drop start text
from-done text start left (inl none) =
    ap (λ (m : ℕ). concat (drop m (pieces (drop start text)))) none ∙ concat-pieces (drop start text)
from-done text start left (inr end) =
    let gone : drop start text ≡ [] = drop_all start text end in
    ap (λ (u : List ℕ). concat (drop left (pieces u))) gone ∙ ap (λ (ps : List (List ℕ)). concat ps) (drop_all left [] (omega arith)) ∙ sym gone

-- ---- from the back: t is what stands before `start`

last-push : (ps : List (List ℕ)) (p : List ℕ) (l : ℕ) →
    concat (drop (length (ps ++ p ∷ []) - suc l) (ps ++ p ∷ [])) ≡ concat (drop (length ps - l) ps) ++ p
last-push ps p l =
    let n : length (ps ++ p ∷ []) - suc l ≡ length ps - l = omega (arith, length_push ps p) in
    ap (λ (m : ℕ). concat (drop m (ps ++ p ∷ []))) n
    ∙ ap (λ (qs : List (List ℕ)). concat qs) (drop-append-le (length ps - l) ps (p ∷ []) (omega arith))
    ∙ concat-push (drop (length ps - l) ps) p

pub last-step : (text t : List ℕ) (start left r : ℕ) → t ≡ take start text → 0 < left → r ≤ length t →
    pieces t ≡ pieces (take r t) ++ drop r t ∷ [] →
    last_lines left (take start text) ++ drop start text ≡ last_lines (left - 1) (take r text) ++ drop r text
last-step text t start zero r is h low line = absurd (omega arith)
last-step text t start (suc l) r is h low line =
    let front = take start text in
    let less : suc l - 1 ≡ l = omega arith in
    let len : length t ≡ min start (length text) = ap (λ (u : List ℕ). length u) is ∙ length-take start text in
    let within : r ≤ length front = omega (arith, length-take start text) in
    let split : pieces front ≡ pieces (take r text) ++ drop r front ∷ [] =
    ap (λ (u : List ℕ). pieces u) (sym is) ∙ line ∙ ap (λ (u : List ℕ). pieces (take r u) ++ drop r u ∷ []) is
    ∙ ap (λ (u : List ℕ). pieces u ++ drop r front ∷ []) (take-take r start text (omega arith)) in
    let joined : drop r front ++ drop start text ≡ drop r text =
    sym (drop-append-le r front (drop start text) within) ∙ ap (λ (u : List ℕ). drop r u) (take-append-drop start text) in
    ap (λ (ps : List (List ℕ)). concat (drop (length ps - suc l) ps) ++ drop start text) split
    ∙ ap (λ (u : List ℕ). u ++ drop start text) (last-push (pieces (take r text)) (drop r front) l)
    ∙ append_assoc (last_lines l (take r text)) (drop r front) (drop start text)
    ∙ ap (λ (u : List ℕ). last_lines l (take r text) ++ u) joined
    ∙ ap (λ (m : ℕ). last_lines m (take r text) ++ drop r text) (sym less)

pub last-none : (text : List ℕ) (start : ℕ) → last_lines 0 (take start text) ++ drop start text ≡ drop start text
last-none text start =
    let ps = pieces (take start text) in
    ap (λ (qs : List (List ℕ)). concat qs ++ drop start text) (drop_all (length ps - 0) ps (omega arith))

pub last-all : (text : List ℕ) (left : ℕ) → last_lines left (take 0 text) ++ drop 0 text ≡ text
last-all text left = ap (λ (qs : List (List ℕ)). concat qs ++ text) (drop_all (0 - left) [] (omega arith))

pub last-begin : (text : List ℕ) (count : ℕ) → last_lines count text ≡ last_lines count (take (length text) text) ++ drop (length text) text
last-begin text count =
    sym (append-nil (last_lines count text))
    ∙ ap (λ (u : List ℕ). last_lines count u ++ []) (sym (take_all (length text) text (omega arith)))
    ∙ ap (λ (u : List ℕ). last_lines count (take (length text) text) ++ u) (sym (drop_all (length text) text (omega arith)))
