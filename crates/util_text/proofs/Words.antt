-- Words, counted where they begin.
use Rattle.std.proofs.Common.{◌≡◌, ℕ, ◌+◌, Bool, true, false, not, cond, List, [], ◌∷◌, refl, sym, ◌∙◌, ap, arith, add-zero, length}
use Rattle.std.specs.Prelude.{◌&&◌}
use Rattle.util_text.specs.declared.counting.Counts.{Counts}
use Rattle.util_text.specs.Counting.{is_space, ends_word, words, newlines, counts}

-- how many words begin in these bytes, inside a word or not
abbrev pub starts : Bool → List ℕ → ℕ
starts inside [] = 0
starts inside (b ∷ bs) = cond (not inside && not (is_space b)) 1 0 + starts (not (is_space b)) bs

step : (s e : Bool) (F : Bool → ℕ) (w : ℕ) → F false ≡ w → F true + 1 ≡ cond e 1 0 + w →
    (cond (not false && not s) 1 0 + F (not s) ≡ cond (not s && e) 1 0 + w)
    × ((cond (not true && not s) 1 0 + F (not s)) + 1 ≡ cond s 1 0 + (cond (not s && e) 1 0 + w))
step true e F w outside inside = (omega arith, omega arith)
step false e F w outside inside = (omega arith, omega arith)

both : (text : List ℕ) → (starts false text ≡ words text) × (starts true text + 1 ≡ cond (ends_word text) 1 0 + words text)
both [] = (refl, refl)
both (b ∷ bs) = step (is_space b) (ends_word bs) (λ inside. starts inside bs) (words bs) (both bs).0 (both bs).1

pub starts_words : (text : List ℕ) → starts false text ≡ words text
starts_words text = (both text).0

-- the counts of a text when nothing of it is left
pub counts-done : (text rest : List ℕ) (l w : ℕ) (inside : Bool) → rest ≡ [] → l + newlines rest ≡ newlines text → w + starts inside rest ≡ starts false text →
    record { lines = l; words = w; bytes = length text } ≡ counts text
counts-done text rest l w inside gone lines begun =
    let made : ℕ → ℕ → Counts = λ m n. record { lines = m; words = n; bytes = length text } in
    let all : l ≡ newlines text = sym (add-zero l) ∙ ap (λ (u : List ℕ). l + newlines u) (sym gone) ∙ lines in
    let each : w ≡ words text = sym (add-zero w) ∙ ap (λ (u : List ℕ). w + starts inside u) (sym gone) ∙ begun ∙ starts_words text in
    ap (λ (m : ℕ). made m w) all ∙ ap (λ (n : ℕ). made (newlines text) n) each
