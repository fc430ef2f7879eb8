-- Formats that are used again for the words that are left.
use Rattle.std.proofs.Common.{◌≡◌, ℕ, zero, suc, ◌+◌, ◌-◌, ◌*◌, ◌/◌, ◌%◌, ◌<◌, ◌≤◌, max, Bool, true, false, ◌||◌, if◌then◌else◌, List, [], ◌∷◌, ◌++◌, length, drop, refl, sym, ap, ◌∙◌, arith, append_assoc, append-nil, length-drop, ◌⊎◌, inl, inr}
use Rattle.std.proofs.lemmas.Bool.{cases_lt, false≢true, true≢false}
use Rattle.std.proofs.lemmas.List.{drop-drop, drop_all}
use Rattle.std.proofs.lemmas.Nat.{div-mul-add, div-add-mod', le-div, mod_below}
use Rattle.util_print.specs.Rounds.{left_bad, left_text}
use Rattle.util_print.specs.Shown.{all_parts, bad_words, part_bad, part_taken, part_text, repeated, rounds, taken, takes_word, takes_words, written}
use Rattle.util_print.specs.declared.format.Part.{Part}

-- ---- one format behind another

pub written_both : (ps qs : List Part) (words : List (List ℕ)) → written (ps ++ qs) words ≡ written ps words ++ written qs (drop (taken ps) words)
written_both [] qs words = refl
written_both (p ∷ ps) qs words =
    let left = drop (part_taken p) words in
    ap (λ (u : List ℕ). part_text p words ++ u) (written_both ps qs left ∙ ap (λ (ws : List (List ℕ)). written ps left ++ written qs ws) (drop-drop (taken ps) (part_taken p) words))
    ∙ sym (append_assoc (part_text p words) (written ps left) (written qs (drop (part_taken p + taken ps) words)))

pub bad_both : (ps qs : List Part) (words : List (List ℕ)) → bad_words (ps ++ qs) words ≡ bad_words ps words ++ bad_words qs (drop (taken ps) words)
bad_both [] qs words = refl
bad_both (p ∷ ps) qs words =
    let left = drop (part_taken p) words in
    ap (λ (u : List (List ℕ)). part_bad p words ++ u) (bad_both ps qs left ∙ ap (λ (ws : List (List ℕ)). bad_words ps left ++ bad_words qs ws) (drop-drop (taken ps) (part_taken p) words))
    ∙ sym (append_assoc (part_bad p words) (bad_words ps left) (bad_words qs (drop (part_taken p + taken ps) words)))

-- ---- how often

quotient : (n d q r : ℕ) → r < d → n ≡ q * d + r → n / d ≡ q
quotient n d q r l e = ap (λ (m : ℕ). m / d) e ∙ div-mul-add q d r l

-- the words are enough for one time at most
once : (len n : ℕ) → len ≤ suc n → rounds len (suc n) ≡ 1
once zero n l = ap (λ (q : ℕ). max 1 q) (quotient (0 + n) (suc n) 0 n (omega arith) (omega arith)) ∙ refl
once (suc len) n l = ap (λ (q : ℕ). max 1 q) (quotient (suc len + n) (suc n) 1 len (omega arith) (omega arith)) ∙ refl

some_quotient : (len n : ℕ) → 0 < len → 0 < (len + n) / suc n
some_quotient len n l = let e = le-div 1 (len + n) (suc n) (omega arith) (omega arith) in omega arith

next_quotient : (a m d : ℕ) → 0 < d → a ≡ m + d → a / d ≡ suc (m / d)
next_quotient a m d l e =
    let q = m / d in
    let r = m % d in
    let whole : q * d + r ≡ m = div-add-mod' m d in
    quotient a d (suc q) r (mod_below m d l) (omega arith)

max_one : (q : ℕ) → 0 < q → max 1 (suc q) ≡ suc (max 1 q)
max_one q l = omega arith

-- a time more
again : (len n : ℕ) → suc n < len → rounds len (suc n) ≡ suc (rounds (len - suc n) (suc n))
again len n l =
    let m = len - suc n in
    ap (λ (x : ℕ). max 1 x) (next_quotient (len + n) (m + n) (suc n) (omega arith) (omega arith))
    ∙ max_one ((m + n) / suc n) (some_quotient m n (omega arith))

-- ---- behind a round

-- a format that takes no word
all_none : (ps : List Part) (words : List (List ℕ)) → taken ps ≡ 0 → all_parts ps words ≡ ps
all_none ps words e = ap (λ (k : ℕ). repeated (rounds (length words) k) ps) e ∙ append-nil ps

pub written_none : (ps : List Part) (words : List (List ℕ)) → taken ps ≡ 0 → written ps words ≡ written (all_parts ps words) words
written_none ps words e = ap (λ (qs : List Part). written qs words) (sym (all_none ps words e))

pub bad_none : (ps : List Part) (words : List (List ℕ)) → taken ps ≡ 0 → bad_words ps words ≡ bad_words (all_parts ps words) words
bad_none ps words e = ap (λ (qs : List Part). bad_words qs words) (sym (all_none ps words e))

-- the parts for these words: once, and then as often as there are words left
all_once : (ps : List Part) (words : List (List ℕ)) (n : ℕ) → taken ps ≡ suc n → length words ≤ suc n → all_parts ps words ≡ ps ++ []
all_once ps words n e l =
    ap (λ (k : ℕ). repeated (rounds (length words) k) ps) e
    ∙ ap (λ (k : ℕ). repeated k ps) (once (length words) n l)

all_again : (ps : List Part) (words : List (List ℕ)) (n : ℕ) → taken ps ≡ suc n → suc n < length words → all_parts ps words ≡ ps ++ all_parts ps (drop (taken ps) words)
all_again ps words n e l =
    ap (λ (k : ℕ). repeated (rounds (length words) k) ps) e
    ∙ ap (λ (k : ℕ). repeated k ps) (again (length words) n l)
    ∙ ap (λ (k : ℕ). ps ++ repeated (rounds (length words - k) k) ps) (sym e)
    ∙ ap (λ (k : ℕ). ps ++ repeated (rounds k (taken ps)) ps) (sym (length-drop (taken ps) words))

pub left_some : (ps : List Part) (words : List (List ℕ)) → 0 < length words → left_text ps words ≡ written (all_parts ps words) words
left_some ps [] l = absurd (omega arith)
left_some ps (w ∷ ws) l = refl

pub bad_some : (ps : List Part) (words : List (List ℕ)) → 0 < length words → left_bad ps words ≡ bad_words (all_parts ps words) words
bad_some ps [] l = absurd (omega arith)
bad_some ps (w ∷ ws) l = refl

text_by : (ps : List Part) (words : List (List ℕ)) (n : ℕ) → taken ps ≡ suc n → (length words ≤ suc n) ⊎ (suc n < length words) → written ps words ++ left_text ps (drop (taken ps) words) ≡ written (all_parts ps words) words
text_by ps words n e (inl l) =
    ap (λ (ws : List (List ℕ)). written ps words ++ left_text ps ws) (drop_all (taken ps) words (omega arith))
    ∙ append-nil (written ps words)
    ∙ ap (λ (qs : List Part). written qs words) (sym (append-nil ps) ∙ sym (all_once ps words n e l))
text_by ps words n e (inr l) =
    ap (λ (u : List ℕ). written ps words ++ u) (left_some ps (drop (taken ps) words) (omega (arith, length-drop (taken ps) words)))
    ∙ sym (written_both ps (all_parts ps (drop (taken ps) words)) words)
    ∙ ap (λ (qs : List Part). written qs words) (sym (all_again ps words n e l))

bad_by : (ps : List Part) (words : List (List ℕ)) (n : ℕ) → taken ps ≡ suc n → (length words ≤ suc n) ⊎ (suc n < length words) → bad_words ps words ++ left_bad ps (drop (taken ps) words) ≡ bad_words (all_parts ps words) words
bad_by ps words n e (inl l) =
    ap (λ (ws : List (List ℕ)). bad_words ps words ++ left_bad ps ws) (drop_all (taken ps) words (omega arith))
    ∙ append-nil (bad_words ps words)
    ∙ ap (λ (qs : List Part). bad_words qs words) (sym (append-nil ps) ∙ sym (all_once ps words n e l))
bad_by ps words n e (inr l) =
    ap (λ (u : List (List ℕ)). bad_words ps words ++ u) (bad_some ps (drop (taken ps) words) (omega (arith, length-drop (taken ps) words)))
    ∙ sym (bad_both ps (all_parts ps (drop (taken ps) words)) words)
    ∙ ap (λ (qs : List Part). bad_words qs words) (sym (all_again ps words n e l))

within : (len n : ℕ) → (len ≤ suc n) ⊎ (suc n < len)
within len n = elim (cases_lt (suc n) len) [ inl l ↦ inr l | inr l ↦ inl l ]

-- one round, and then the words that are left
pub text_on : (ps : List Part) (words : List (List ℕ)) → 0 < taken ps → written ps words ++ left_text ps (drop (taken ps) words) ≡ written (all_parts ps words) words
text_on ps words l = let n = taken ps - 1 in text_by ps words n (omega arith) (within (length words) n)

pub bad_on : (ps : List Part) (words : List (List ℕ)) → 0 < taken ps → bad_words ps words ++ left_bad ps (drop (taken ps) words) ≡ bad_words (all_parts ps words) words
bad_on ps words l = let n = taken ps - 1 in bad_by ps words n (omega arith) (within (length words) n)

-- ---- whether a format takes words

some_by : (t rest : Bool) (n : ℕ) → (rest ≡ true → 0 < n) → (t || rest) ≡ true → 0 < (if t then 1 else 0) + n
some_by true rest n h e = omega arith
some_by false rest n h e = let k : 0 < n = h e in omega arith

pub taken_some : (ps : List Part) → takes_words ps ≡ true → 0 < taken ps
taken_some [] e = absurd (false≢true e)
taken_some (p ∷ ps) e = some_by (takes_word p) (takes_words ps) (taken ps) (taken_some ps) e

none_by : (t rest : Bool) (n : ℕ) → (rest ≡ false → n ≡ 0) → (t || rest) ≡ false → (if t then 1 else 0) + n ≡ 0
none_by true rest n h e = absurd (true≢false e)
none_by false rest n h e = let k : n ≡ 0 = h e in omega arith

pub taken_none : (ps : List Part) → takes_words ps ≡ false → taken ps ≡ 0
taken_none [] e = refl
taken_none (p ∷ ps) e = none_by (takes_word p) (takes_words ps) (taken ps) (taken_none ps) e
