-- Runs of bytes, read again with another text behind them.
use Rattle.std.proofs.Common.{◌≡◌, ℕ, Bool, true, false, ◌==◌, List, [], ◌∷◌, ◌++◌, Option, Some, None, refl, ap, ◌∙◌, arith}
use Rattle.sh_lexer.specs.Bytes.{peel, piece, single, onto, joins, special}
use Rattle.sh_spell.proofs.Cases.{chosen, takes, passes}

-- ---- joined lines

-- The byte begins no joined lines with the text behind it.
abbrev pub Apart : ℕ → List ℕ → Type 0
Apart b [] = Unit {0}
Apart b (c ∷ r) = joins b c ≡ false

-- No joined lines are at the front.
abbrev pub Firm : List ℕ → Type 0
Firm [] = Unit {0}
Firm (b ∷ r) = Apart b r

pub apart : (b : ℕ) (r : List ℕ) → (b == 92) ≡ false → Apart b r
apart b [] e = tt
apart b (c ∷ r) e = rw e refl

pub ordinary_apart : (b : ℕ) (r : List ℕ) → special b ≡ false → Apart b r
unfolding special
ordinary_apart b [] e = tt
ordinary_apart b (c ∷ r) e = grind arith

pub peel-firm : (t : List ℕ) → Firm t → peel t ≡ t
unfolding peel
peel-firm [] f = refl
peel-firm (b ∷ []) f = refl
peel-firm (b ∷ c ∷ r) f = passes (joins b c) (peel r) (b ∷ c ∷ r) f

pub peel-is_firm : (t : List ℕ) → Firm (peel t)
unfolding peel
peel-is_firm [] = tt
peel-is_firm (b ∷ []) = tt
peel-is_firm (b ∷ c ∷ r) = chosen Firm (joins b c) (λ e. peel-is_firm r) (λ e. e)

pub peel-joined : (b c : ℕ) (r : List ℕ) → joins b c ≡ true → peel (b ∷ c ∷ r) ≡ peel r
unfolding peel
peel-joined b c r e = takes (joins b c) (peel r) (b ∷ c ∷ r) e

-- ---- runs

-- The run ends before the text.
abbrev pub Stop : (ℕ → Bool) → List ℕ → Type 0
Stop p [] = Unit {0}
Stop p (b ∷ r) = (p b ≡ false) × Apart b r

pub Stop-firm : (p : ℕ → Bool) (t : List ℕ) → Stop p t → Firm t
Stop-firm p [] s = tt
Stop-firm p (b ∷ r) s = s.1

pub piece-stop : (p : ℕ → Bool) (t : List ℕ) → Stop p t → piece p t ≡ ([], t)
unfolding piece
piece-stop p [] s = refl
piece-stop p (b ∷ []) s = passes (p b) _ _ s.0
piece-stop p (b ∷ c ∷ r) s = passes (joins b c) _ _ s.1 ∙ passes (p b) _ _ s.0

pub piece-more : (p : ℕ → Bool) (b : ℕ) (t : List ℕ) → p b ≡ true → Apart b t → piece p (b ∷ t) ≡ onto b (piece p t)
unfolding piece
piece-more p b [] e a = takes (p b) _ _ e
piece-more p b (c ∷ r) e a = passes (joins b c) _ _ a ∙ takes (p b) _ _ e

pub piece-stops : (p : ℕ → Bool) (t : List ℕ) → Stop p (piece p t).1
unfolding piece
piece-stops p [] = tt
piece-stops p (b ∷ []) = chosen (λ (x : List ℕ × List ℕ). Stop p x.1) (p b) (λ e. tt) (λ e. (e, tt))
piece-stops p (b ∷ c ∷ r) =
    chosen (λ (x : List ℕ × List ℕ). Stop p x.1) (joins b c) (λ j. piece-stops p r) (λ j.
    chosen (λ (x : List ℕ × List ℕ). Stop p x.1) (p b) (λ e. piece-stops p (c ∷ r)) (λ e. (e, j)))

-- Bytes of the class are not special.
abbrev pub Ordinary : (ℕ → Bool) → Type 0
Ordinary p = (b : ℕ) → p b ≡ true → special b ≡ false

abbrev Again : (ℕ → Bool) → List ℕ → List ℕ × List ℕ → Type 0
Again p c x = piece p (x.0 ++ c) ≡ (x.0, c)

again-more : (p : ℕ → Bool) (b : ℕ) (c : List ℕ) (x : List ℕ × List ℕ) → p b ≡ true → special b ≡ false → Again p c x → Again p c (onto b x)
again-more p b c x e f h = piece-more p b (x.0 ++ c) e (ordinary_apart b (x.0 ++ c) f) ∙ ap (onto b) h

-- The run is the same where another text that ends it follows.
pub piece-again : (p : ℕ → Bool) (t c : List ℕ) → Ordinary p → Stop p c → piece p ((piece p t).0 ++ c) ≡ ((piece p t).0, c)
unfolding piece
piece-again p [] c o s = piece-stop p c s
piece-again p (b ∷ []) c o s = chosen (Again p c) (p b) (λ e. again-more p b c ([], []) e (o b e) (piece-stop p c s)) (λ e. piece-stop p c s)
piece-again p (b ∷ d ∷ r) c o s =
    chosen (Again p c) (joins b d) (λ j. piece-again p r c o s) (λ j.
    chosen (Again p c) (p b) (λ e. again-more p b c (piece p (d ∷ r)) e (o b e) (piece-again p (d ∷ r) c o s)) (λ e. piece-stop p c s))

-- ---- single quotes

abbrev pub SingleAgain : List ℕ → Option (List ℕ × List ℕ) → Type 0
SingleAgain c None = Unit {0}
SingleAgain c (Some x) = single (x.0 ++ 39 ∷ c) ≡ Some (x.0, c)

single-more : (b : ℕ) (c : List ℕ) (o : Option (List ℕ × List ℕ)) → (b == 39) ≡ false → SingleAgain c o →
    SingleAgain c (elim o as (λ q. Option (List ℕ × List ℕ)) [ None ↦ None | Some p ↦ Some (onto b p) ])
unfolding single
single-more b c None e h = tt
single-more b c (Some x) e h = passes (b == 39) _ _ e ∙ ap (λ o. elim o as (λ q. Option (List ℕ × List ℕ)) [ None ↦ None | Some p ↦ Some (onto b p) ]) h

pub single-again : (t c : List ℕ) → SingleAgain c (single t)
unfolding single
single-again [] c = tt
single-again (b ∷ r) c = chosen (SingleAgain c) (b == 39) (λ e. refl) (λ e. single-more b c (single r) e (single-again r c))
