-- What is printed so far, part by part and round by round.
use Rattle.std.proofs.Common.{◌≡◌, ℕ, ◌<◌, List, [], ◌∷◌, ◌++◌, length, drop, Bool, true, false, eqb, sym, ap, ◌∙◌, arith, append_assoc, append-nil, length-drop}
use Rattle.std.proofs.lemmas.List.{drop-drop}
use Rattle.std.proofs.lemmas.Bool.{eqb-true, true≢false}
use Rattle.util_print.specs.Rounds.{left_bad, left_text}
use Rattle.util_print.specs.Shown.{all_parts, bad_words, part_bad, part_taken, part_text, taken, written}
use Rattle.util_print.specs.declared.format.Part.{Part}
use Rattle.util_print.proofs.Rounds.{bad_none, bad_on, bad_some, left_some, text_on, written_none}

-- ---- a part more

pub text_part : (out new whole : List ℕ) (p : Part) (ps qs : List Part) (left next : List (List ℕ)) → qs ≡ p ∷ ps → new ≡ out ++ part_text p left → next ≡ drop (part_taken p) left
    → out ++ written qs left ≡ whole → new ++ written ps next ≡ whole
text_part out new whole p ps qs left next q n d e =
    ap (λ (u : List ℕ). u ++ written ps next) n
    ∙ append_assoc out (part_text p left) (written ps next)
    ∙ ap (λ (ws : List (List ℕ)). out ++ (part_text p left ++ written ps ws)) d
    ∙ ap (λ (rs : List Part). out ++ written rs left) (sym q)
    ∙ e

pub bad_part : (out new whole : List (List ℕ)) (p : Part) (ps qs : List Part) (left next : List (List ℕ)) → qs ≡ p ∷ ps → new ≡ out ++ part_bad p left → next ≡ drop (part_taken p) left
    → out ++ bad_words qs left ≡ whole → new ++ bad_words ps next ≡ whole
bad_part out new whole p ps qs left next q n d e =
    ap (λ (u : List (List ℕ)). u ++ bad_words ps next) n
    ∙ append_assoc out (part_bad p left) (bad_words ps next)
    ∙ ap (λ (ws : List (List ℕ)). out ++ (part_bad p left ++ bad_words ps ws)) d
    ∙ ap (λ (rs : List Part). out ++ bad_words rs left) (sym q)
    ∙ e

pub left_part : (p : Part) (ps qs : List Part) (left next whole : List (List ℕ)) → qs ≡ p ∷ ps → next ≡ drop (part_taken p) left → drop (taken qs) left ≡ whole → drop (taken ps) next ≡ whole
left_part p ps qs left next whole q d e =
    ap (λ (ws : List (List ℕ)). drop (taken ps) ws) d
    ∙ drop-drop (taken ps) (part_taken p) left
    ∙ ap (λ (rs : List Part). drop (taken rs) left) (sym q)
    ∙ e

pub text_end : (out whole : List ℕ) (qs : List Part) (left : List (List ℕ)) → qs ≡ [] → out ++ written qs left ≡ whole → out ≡ whole
text_end out whole qs left q e = sym (append-nil out) ∙ ap (λ (rs : List Part). out ++ written rs left) (sym q) ∙ e

pub bad_end : (out whole : List (List ℕ)) (qs : List Part) (left : List (List ℕ)) → qs ≡ [] → out ++ bad_words qs left ≡ whole → out ≡ whole
bad_end out whole qs left q e = sym (append-nil out) ∙ ap (λ (rs : List Part). out ++ bad_words rs left) (sym q) ∙ e

pub left_end : (qs : List Part) (left whole : List (List ℕ)) → qs ≡ [] → drop (taken qs) left ≡ whole → left ≡ whole
left_end qs left whole q e = ap (λ (rs : List Part). drop (taken rs) left) (sym q) ∙ e

-- ---- a round more

pub some_left : (ws : List (List ℕ)) (empty : Bool) → empty ≡ eqb (length ws) 0 → empty ≡ false → 0 < length ws
some_left [] empty e h = absurd (true≢false (sym e ∙ h))
some_left (w ∷ ws) empty e h = omega arith

pub none_left : (ws : List (List ℕ)) (empty : Bool) → empty ≡ eqb (length ws) 0 → empty ≡ true → length ws ≡ 0
none_left ws empty e h = eqb-true (length ws) 0 (sym e ∙ h)

pub round_shorter : (n : ℕ) (left next : List (List ℕ)) → 0 < n → 0 < length left → next ≡ drop n left → length next < length left
round_shorter n left next t l e = omega (arith, length-drop n left, ap (λ (u : List (List ℕ)). length u) e)

pub text_round : (ps : List Part) (left next : List (List ℕ)) (out new whole : List ℕ) → 0 < taken ps → 0 < length left → new ≡ out ++ written ps left → next ≡ drop (taken ps) left
    → out ++ left_text ps left ≡ whole → new ++ left_text ps next ≡ whole
text_round ps left next out new whole t l n d e =
    ap (λ (u : List ℕ). u ++ left_text ps next) n
    ∙ append_assoc out (written ps left) (left_text ps next)
    ∙ ap (λ (ws : List (List ℕ)). out ++ (written ps left ++ left_text ps ws)) d
    ∙ ap (λ (u : List ℕ). out ++ u) (text_on ps left t ∙ sym (left_some ps left l))
    ∙ e

pub bad_round : (ps : List Part) (left next : List (List ℕ)) (out new whole : List (List ℕ)) → 0 < taken ps → 0 < length left → new ≡ out ++ bad_words ps left → next ≡ drop (taken ps) left
    → out ++ left_bad ps left ≡ whole → new ++ left_bad ps next ≡ whole
bad_round ps left next out new whole t l n d e =
    ap (λ (u : List (List ℕ)). u ++ left_bad ps next) n
    ∙ append_assoc out (bad_words ps left) (left_bad ps next)
    ∙ ap (λ (ws : List (List ℕ)). out ++ (bad_words ps left ++ left_bad ps ws)) d
    ∙ ap (λ (u : List (List ℕ)). out ++ u) (bad_on ps left t ∙ sym (bad_some ps left l))
    ∙ e

pub text_left : (ps : List Part) (left : List (List ℕ)) (out whole : List ℕ) → length left ≡ 0 → out ++ left_text ps left ≡ whole → out ≡ whole
text_left ps [] out whole l e = sym (append-nil out) ∙ e
text_left ps (w ∷ ws) out whole l e = absurd (omega arith)

pub bad_left : (ps : List Part) (left : List (List ℕ)) (out whole : List (List ℕ)) → length left ≡ 0 → out ++ left_bad ps left ≡ whole → out ≡ whole
bad_left ps [] out whole l e = sym (append-nil out) ∙ e
bad_left ps (w ∷ ws) out whole l e = absurd (omega arith)

-- ---- all rounds

pub text_all : (ps : List Part) (words left : List (List ℕ)) (old mid new : List ℕ) → 0 < taken ps → mid ≡ old ++ written ps words → left ≡ drop (taken ps) words → new ≡ mid ++ left_text ps left
    → new ≡ old ++ written (all_parts ps words) words
text_all ps words left old mid new t m l e =
    e
    ∙ ap (λ (u : List ℕ). u ++ left_text ps left) m
    ∙ append_assoc old (written ps words) (left_text ps left)
    ∙ ap (λ (ws : List (List ℕ)). old ++ (written ps words ++ left_text ps ws)) l
    ∙ ap (λ (u : List ℕ). old ++ u) (text_on ps words t)

pub bad_all : (ps : List Part) (words left : List (List ℕ)) (old mid new : List (List ℕ)) → 0 < taken ps → mid ≡ old ++ bad_words ps words → left ≡ drop (taken ps) words → new ≡ mid ++ left_bad ps left
    → new ≡ old ++ bad_words (all_parts ps words) words
bad_all ps words left old mid new t m l e =
    e
    ∙ ap (λ (u : List (List ℕ)). u ++ left_bad ps left) m
    ∙ append_assoc old (bad_words ps words) (left_bad ps left)
    ∙ ap (λ (ws : List (List ℕ)). old ++ (bad_words ps words ++ left_bad ps ws)) l
    ∙ ap (λ (u : List (List ℕ)). old ++ u) (bad_on ps words t)

pub text_once : (ps : List Part) (words : List (List ℕ)) (old new : List ℕ) → taken ps ≡ 0 → new ≡ old ++ written ps words → new ≡ old ++ written (all_parts ps words) words
text_once ps words old new t e = e ∙ ap (λ (u : List ℕ). old ++ u) (written_none ps words t)

pub bad_once : (ps : List Part) (words : List (List ℕ)) (old new : List (List ℕ)) → taken ps ≡ 0 → new ≡ old ++ bad_words ps words → new ≡ old ++ bad_words (all_parts ps words) words
bad_once ps words old new t e = e ∙ ap (λ (u : List (List ℕ)). old ++ u) (bad_none ps words t)
