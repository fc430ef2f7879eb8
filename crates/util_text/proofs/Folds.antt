-- Lines that are cut.
use Rattle.std.proofs.Common.{◌≡◌, ℕ, zero, suc, ◌-◌, ◌^◌, ◌<◌, ◌≤◌, min, List, [], ◌∷◌, ◌++◌, length, take, drop, refl, sym, ◌∙◌, ap, inl, inr, arith, append_assoc, length-drop}
use Rattle.std.specs.List.{flat_map}
use Rattle.std.proofs.lemmas.Bool.{cases_lt}
use Rattle.util_text.specs.Count.{StandsFor}
use Rattle.util_text.specs.Fold.{cut_from, fold_line}
use Rattle.util_text.specs.Lines.{lines}

cut-part : (n k : ℕ) (line : List ℕ) → k < length line → cut_from n k line ≡ take k line ++ cut_from n 0 (drop k line)
cut-part n k [] h = absurd (omega arith)
cut-part n zero (b ∷ bs) h = refl
cut-part n (suc k) (b ∷ bs) h = ap (λ (u : List ℕ). b ∷ u) (cut-part n k bs (omega arith))

cut-zero : (n : ℕ) (line : List ℕ) → 0 < n → 0 < length line → cut_from n 0 line ≡ 10 ∷ cut_from n n line
cut-zero zero line h l = absurd (omega arith)
cut-zero (suc m) [] h l = absurd (omega arith)
cut-zero (suc m) (b ∷ bs) h l = let e : suc m - 1 ≡ m = omega arith in ap (λ (k : ℕ). 10 ∷ b ∷ cut_from (suc m) k bs) e

fold-cut : (w : ℕ) (rest : List ℕ) → 0 < w → w < length rest → fold_line w rest ≡ (take w rest ++ 10 ∷ []) ++ fold_line w (drop w rest)
fold-cut w rest pos long =
    cut-part w w rest long
    ∙ ap (λ (u : List ℕ). take w rest ++ u) (cut-zero w (drop w rest) pos (omega (arith, length-drop w rest)))
    ∙ sym (append_assoc (take w rest) (10 ∷ []) (fold_line w (drop w rest)))

cut-none : (n k : ℕ) (line : List ℕ) → length line ≤ k → cut_from n k line ≡ line ++ 10 ∷ []
cut-none n k [] h = refl
cut-none n zero (b ∷ bs) h = absurd (omega arith)
cut-none n (suc k) (b ∷ bs) h = ap (λ (u : List ℕ). b ∷ u) (cut-none n k bs (omega arith))

fold-none : (w : ℕ) (line : List ℕ) → length line ≤ w → fold_line w line ≡ line ++ 10 ∷ []
fold-none w line h = cut-none w w line h

-- one cut more
pub fold-step : (w : ℕ) (out new whole rest part more : List ℕ) → 0 < w → w < length rest → part ≡ take w rest → more ≡ drop w rest →
    out ++ fold_line w rest ≡ whole → new ≡ out ++ (part ++ 10 ∷ []) → new ++ fold_line w more ≡ whole
fold-step w out new whole rest part more pos long is behind sofar written =
    ap (λ (u : List ℕ). u ++ fold_line w more) written
    ∙ append_assoc out (part ++ 10 ∷ []) (fold_line w more)
    ∙ ap (λ (u : List ℕ). out ++ ((u ++ 10 ∷ []) ++ fold_line w more)) is
    ∙ ap (λ (u : List ℕ). out ++ ((take w rest ++ 10 ∷ []) ++ fold_line w u)) behind
    ∙ ap (λ (u : List ℕ). out ++ u) (sym (fold-cut w rest pos long))
    ∙ sofar

-- widths that stand for numbers
fold-stands : (w n : ℕ) (line : List ℕ) → length line < 2 ^ 64 → StandsFor w n → fold_line w line ≡ fold_line n line
fold-stands w n line short stands =
    elim (cases_lt w n) [
      | inl h ↦ fold-none w line (omega arith) ∙ sym (fold-none n line (omega arith))
      | inr h ↦ (let e : w ≡ n = omega arith in ap (λ (m : ℕ). fold_line m line) e)
    ]

pub fold-done : (w n : ℕ) (out new old rest line : List ℕ) → length rest ≤ w → length line < 2 ^ 64 → StandsFor w n →
    out ++ fold_line w rest ≡ old ++ fold_line w line → new ≡ out ++ (rest ++ 10 ∷ []) → new ≡ old ++ fold_line n line
fold-done w n out new old rest line short small stands sofar written =
    written
    ∙ ap (λ (u : List ℕ). out ++ u) (sym (fold-none w rest short))
    ∙ sofar
    ∙ ap (λ (u : List ℕ). old ++ u) (fold-stands w n line small stands)

-- one line more
pub lines-step : (f : List ℕ → List ℕ) (out new whole rest line more : List ℕ) → lines rest ≡ line ∷ lines more →
    out ++ flat_map f (lines rest) ≡ whole → new ≡ out ++ f line → new ++ flat_map f (lines more) ≡ whole
lines-step f out new whole rest line more is sofar written =
    ap (λ (u : List ℕ). u ++ flat_map f (lines more)) written
    ∙ append_assoc out (f line) (flat_map f (lines more))
    ∙ ap (λ (ls : List (List ℕ)). out ++ flat_map f ls) (sym is)
    ∙ sofar
