-- Runs of bytes in arithmetic expressions, read again with another text behind them.
use Rattle.std.proofs.Common.{◌≡◌, ℕ, Bool, true, false, ◌==◌, ◌&&◌, ◌+◌, List, [], ◌∷◌, ◌++◌, refl, ap, sym, ◌∙◌, ◌⊎◌, inl, inr, arith}
use Rattle.sh_lexer.specs.Bytes.{peel, joins, special}
use Rattle.sh_lexer.specs.Lex.{sum, sum_onto, closes, close_bracket}
use Rattle.sh_spell.proofs.Cases.{chosen, takes, passes, both, at}
use Rattle.sh_spell.proofs.Runs.{Apart, Firm, ordinary_apart, peel-firm, peel-joined}

abbrev pub Total : Type 0
Total = List ℕ × ℕ × List ℕ

-- The byte, with so many brackets open, ends the run before the text.
abbrev pub Halts : ℕ → ℕ → List ℕ → Type 0
Halts n b r = (special b ≡ true) ⊎ ((special b ≡ false) × ((b == 40) ≡ false) × ((b == 41 && (n == 0 && closes (peel r))) ≡ true))

abbrev pub EndsTotal : ℕ → List ℕ → Type 0
EndsTotal n [] = ⊥
EndsTotal n (b ∷ r) = Halts n b r × Apart b r

no_close : (n b : ℕ) → (b == 41 && (n == 0 && closes (peel []))) ≡ true → ⊥
unfolding peel
no_close n b e = grind arith

pub total-ends : (n : ℕ) (t : List ℕ) → EndsTotal n t → sum n t ≡ ([], n, t)
unfolding sum
total-ends n [] e = absurd e
total-ends n (b ∷ []) (inl s, a) = takes (special b) _ _ s
total-ends n (b ∷ []) (inr s, a) = absurd (no_close n b s.2)
total-ends n (b ∷ c ∷ r) (inl s, a) = passes (joins b c) _ _ a ∙ takes (special b) _ _ s
total-ends n (b ∷ c ∷ r) (inr s, a) =
    passes (joins b c) _ _ a ∙ (passes (special b) _ _ s.0 ∙ (passes (b == 40) _ _ s.1 ∙ takes (b == 41 && (n == 0 && closes (peel (c ∷ r)))) _ _ s.2))

-- ---- one more byte in front

abbrev NotNil : List ℕ → Type 0
NotNil t = t ≡ [] → ⊥

more-open : (n b : ℕ) (t : List ℕ) → NotNil t → special b ≡ false → (b == 40) ≡ true → sum n (b ∷ t) ≡ sum_onto b (sum (n + 1) t)
unfolding sum
more-open n b [] y s e = absurd (y refl)
more-open n b (c ∷ r) y s e = passes (joins b c) _ _ (ordinary_apart b (c ∷ r) s) ∙ (passes (special b) _ _ s ∙ takes (b == 40) _ _ e)

more-close : (n b : ℕ) (t : List ℕ) → NotNil t → special b ≡ false → (b == 40) ≡ false → (b == 41 && (n == 0 && closes (peel t))) ≡ false → (b == 41) ≡ true →
    sum n (b ∷ t) ≡ sum_onto b (sum (close_bracket n) t)
unfolding sum
more-close n b [] y s e f g = absurd (y refl)
more-close n b (c ∷ r) y s e f g =
    passes (joins b c) _ _ (ordinary_apart b (c ∷ r) s)
    ∙ (passes (special b) _ _ s ∙ (passes (b == 40) _ _ e ∙ (passes (b == 41 && (n == 0 && closes (peel (c ∷ r)))) _ _ f ∙ takes (b == 41) _ _ g)))

more-other : (n b : ℕ) (t : List ℕ) → NotNil t → special b ≡ false → (b == 40) ≡ false → (b == 41 && (n == 0 && closes (peel t))) ≡ false → (b == 41) ≡ false →
    sum n (b ∷ t) ≡ sum_onto b (sum n t)
unfolding sum
more-other n b [] y s e f g = absurd (y refl)
more-other n b (c ∷ r) y s e f g =
    passes (joins b c) _ _ (ordinary_apart b (c ∷ r) s)
    ∙ (passes (special b) _ _ s ∙ (passes (b == 40) _ _ e ∙ (passes (b == 41 && (n == 0 && closes (peel (c ∷ r)))) _ _ f ∙ passes (b == 41) _ _ g)))

-- ---- what a run begins with

-- The run and what is left of the text begin as the text does.
abbrev Front : List ℕ → Bool → Total → Type 0
Front c k s = closes (peel s.2) ≡ closes c → k ≡ closes (s.0 ++ c)

fronts : (n : ℕ) (t c : List ℕ) → Front c (closes (peel t)) (sum n t)
unfolding sum
fronts n [] c = λ e. e
fronts n (b ∷ []) c = chosen (Front c (closes (peel (b ∷ [])))) (special b) (λ s. λ e. e) (λ s. λ e. ap closes (peel-firm (b ∷ []) tt))
fronts n (b ∷ d ∷ r) c =
    chosen (Front c (closes (peel (b ∷ d ∷ r)))) (joins b d) (λ j. rw (peel-joined b d r j) (fronts n r c)) (λ j.
    let p : peel (b ∷ d ∷ r) ≡ b ∷ d ∷ r = peel-firm (b ∷ d ∷ r) j in
    let k : closes (peel (b ∷ d ∷ r)) ≡ (b == 41) = ap closes p in
    chosen (Front c (closes (peel (b ∷ d ∷ r)))) (special b) (λ s. λ e. e) (λ s.
    chosen (Front c (closes (peel (b ∷ d ∷ r)))) (b == 40) (λ o. λ e. k) (λ o.
    chosen (Front c (closes (peel (b ∷ d ∷ r)))) (b == 41 && (n == 0 && closes (peel (d ∷ r)))) (λ x. λ e. e) (λ x.
    chosen (Front c (closes (peel (b ∷ d ∷ r)))) (b == 41) (λ y. λ e. k) (λ y. λ e. k)))))

abbrev FirmRun : List ℕ → Total → Type 0
FirmRun c s = Firm (s.0 ++ c)

firm-run : (n : ℕ) (t c : List ℕ) → Firm c → FirmRun c (sum n t)
unfolding sum
firm-run n [] c f = f
firm-run n (b ∷ []) c f = chosen (FirmRun c) (special b) (λ s. f) (λ s. ordinary_apart b c s)
firm-run n (b ∷ d ∷ r) c f =
    chosen (FirmRun c) (joins b d) (λ j. firm-run n r c f) (λ j.
    chosen (FirmRun c) (special b) (λ s. f) (λ s.
    chosen (FirmRun c) (b == 40) (λ o. ordinary_apart b ((sum (n + 1) (d ∷ r)).0 ++ c) s) (λ o.
    chosen (FirmRun c) (b == 41 && (n == 0 && closes (peel (d ∷ r)))) (λ x. f) (λ x.
    chosen (FirmRun c) (b == 41) (λ y. ordinary_apart b ((sum (close_bracket n) (d ∷ r)).0 ++ c) s) (λ y. ordinary_apart b ((sum n (d ∷ r)).0 ++ c) s)))))

-- ---- the run again

not_nil : (x c : List ℕ) → NotNil c → NotNil (x ++ c)
not_nil [] c y = y
not_nil (b ∷ x) c y = λ e. cc

abbrev pub TotalAgain : ℕ → List ℕ → Total → Type 0
TotalAgain n c s = NotNil s.2 → EndsTotal s.1 c → closes (peel s.2) ≡ closes c → sum n (s.0 ++ c) ≡ (s.0, s.1, c)

ends-not_nil : (n : ℕ) (c : List ℕ) → EndsTotal n c → NotNil c
ends-not_nil n [] e = absurd e
ends-not_nil n (b ∷ c) e = λ x. cc

ends-firm : (n : ℕ) (c : List ℕ) → EndsTotal n c → Firm c
ends-firm n [] e = absurd e
ends-firm n (b ∷ c) e = e.1

-- what a `)` sees of the text behind it
seen : (n m b : ℕ) (t c : List ℕ) → Firm c → closes (peel (sum m t).2) ≡ closes c → (b == 41 && (n == 0 && closes (peel t))) ≡ false →
    (b == 41 && (n == 0 && closes (peel ((sum m t).0 ++ c)))) ≡ false
seen n m b t c f e g = ap (λ (k : Bool). b == 41 && (n == 0 && k)) (ap closes (peel-firm ((sum m t).0 ++ c) (firm-run m t c f)) ∙ sym (fronts m t c e)) ∙ g

pub total-again : (n : ℕ) (t c : List ℕ) → TotalAgain n c (sum n t)
unfolding sum
total-again n [] c = λ y e k. absurd (y refl)
total-again n (b ∷ []) c = chosen (TotalAgain n c) (special b) (λ s. λ y e k. total-ends n c e) (λ s. λ y e k. absurd (y refl))
total-again n (b ∷ d ∷ r) c =
    chosen (TotalAgain n c) (joins b d) (λ j. total-again n r c) (λ j.
    chosen (TotalAgain n c) (special b) (λ s. λ y e k. total-ends n c e) (λ s.
    chosen (TotalAgain n c) (b == 40)
    (λ o. λ y e k.
    let q = sum (n + 1) (d ∷ r) in
    more-open n b (q.0 ++ c) (not_nil q.0 c (ends-not_nil q.1 c e)) s o ∙ ap (sum_onto b) (total-again (n + 1) (d ∷ r) c y e k))
    (λ o.
    chosen (TotalAgain n c) (b == 41 && (n == 0 && closes (peel (d ∷ r)))) (λ x. λ y e k. total-ends n c e) (λ x.
    chosen (TotalAgain n c) (b == 41)
    (λ z. λ y e k.
    let q = sum (close_bracket n) (d ∷ r) in
    more-close n b (q.0 ++ c) (not_nil q.0 c (ends-not_nil q.1 c e)) s o (seen n (close_bracket n) b (d ∷ r) c (ends-firm q.1 c e) k x) z
    ∙ ap (sum_onto b) (total-again (close_bracket n) (d ∷ r) c y e k))
    (λ z. λ y e k.
    let q = sum n (d ∷ r) in
    more-other n b (q.0 ++ c) (not_nil q.0 c (ends-not_nil q.1 c e)) s o (seen n n b (d ∷ r) c (ends-firm q.1 c e) k x) z
    ∙ ap (sum_onto b) (total-again n (d ∷ r) c y e k))))))

-- Where a run stops, what is left of the text ends it.
abbrev Stopped : Total → Type 0
Stopped s = NotNil s.2 → EndsTotal s.1 s.2

pub total-stops : (n : ℕ) (t : List ℕ) → Stopped (sum n t)
unfolding sum
total-stops n [] = λ y. absurd (y refl)
total-stops n (b ∷ []) = chosen Stopped (special b) (λ s. λ y. (inl s, tt)) (λ s. λ y. absurd (y refl))
total-stops n (b ∷ d ∷ r) =
    chosen Stopped (joins b d) (λ j. total-stops n r) (λ j.
    chosen Stopped (special b) (λ s. λ y. (inl s, j)) (λ s.
    chosen Stopped (b == 40) (λ o. total-stops (n + 1) (d ∷ r)) (λ o.
    chosen Stopped (b == 41 && (n == 0 && closes (peel (d ∷ r)))) (λ x. λ y. (inr (s, o, x), j)) (λ x.
    chosen Stopped (b == 41) (λ z. total-stops (close_bracket n) (d ∷ r)) (λ z. total-stops n (d ∷ r))))))

-- ---- the first byte

not_open : (b : ℕ) → (b == 41) ≡ true → (b == 40) ≡ false
not_open b e = at (λ n. (n == 40) ≡ false) b 41 refl e

abbrev BeginsWith : ℕ → Total → Type 0
BeginsWith b s = (x : List ℕ) × (s.0 ≡ b ∷ x)

pub begun-total : (n b : ℕ) (r : List ℕ) → special b ≡ false → (b == 41 && (n == 0 && closes (peel r))) ≡ false → (x : List ℕ) × ((sum n (b ∷ r)).0 ≡ b ∷ x)
unfolding sum
begun-total n b [] s e = chosen (BeginsWith b) (special b) (λ o. absurd cc) (λ o. ([], refl))
begun-total n b (d ∷ r) s e =
    chosen (BeginsWith b) (joins b d) (λ j. let k = ordinary_apart b (d ∷ r) s in absurd cc) (λ j.
    chosen (BeginsWith b) (special b) (λ o. absurd cc) (λ o.
    chosen (BeginsWith b) (b == 40) (λ x. ((sum (n + 1) (d ∷ r)).0, refl)) (λ x.
    chosen (BeginsWith b) (b == 41 && (n == 0 && closes (peel (d ∷ r)))) (λ y. absurd cc) (λ y.
    chosen (BeginsWith b) (b == 41) (λ z. ((sum (close_bracket n) (d ∷ r)).0, refl)) (λ z. ((sum n (d ∷ r)).0, refl))))))

no-halt-at : (n b : ℕ) (y x : List ℕ) (m : ℕ) (c : List ℕ) (q : Bool) → (b == 41 && (n == 0 && closes (peel y))) ≡ q → special b ≡ false → sum n (b ∷ y) ≡ (b ∷ x, m, c) → q ≡ false
no-halt-at n b [] x m c true g s e = absurd (no_close n b g)
no-halt-at n b (d ∷ r) x m c true g s e =
    let k = total-ends n (b ∷ d ∷ r) (inr (s, not_open b (both (b == 41) _ g).0, g), ordinary_apart b (d ∷ r) s) in
    let h : [] ≡ b ∷ x = ap (λ (z : Total). z.0) (sym k ∙ e) in absurd cc
no-halt-at n b y x m c false g s e = refl

pub no-halt : (n b : ℕ) (y x : List ℕ) (m : ℕ) (c : List ℕ) → special b ≡ false → sum n (b ∷ y) ≡ (b ∷ x, m, c) → (b == 41 && (n == 0 && closes (peel y))) ≡ false
no-halt n b y x m c s e = no-halt-at n b y x m c (b == 41 && (n == 0 && closes (peel y))) refl s e

-- ---- what stands behind the first byte

second : (m : ℕ) (t w c : List ℕ) → Firm c → (sum m t).0 ≡ w → closes (peel (sum m t).2) ≡ closes c → closes (peel t) ≡ closes (peel (w ++ c))
second m t w c f e g = fronts m t c g ∙ (sym (ap closes (peel-firm ((sum m t).0 ++ c) (firm-run m t c f))) ∙ ap (λ (x : List ℕ). closes (peel (x ++ c))) e)

tail-same : (b : ℕ) (x w : List ℕ) → b ∷ x ≡ b ∷ w → x ≡ w
tail-same b x w e = cc

abbrev Seconds : ℕ → List ℕ → List ℕ → List ℕ → Total → Type 0
Seconds b t w c s = s.0 ≡ b ∷ w → closes (peel s.2) ≡ closes c → closes (peel t) ≡ closes (peel (w ++ c))

pub seconds : (n b : ℕ) (r w c : List ℕ) → special b ≡ false → (b == 41 && (n == 0 && closes (peel r))) ≡ false → Firm c → Seconds b r w c (sum n (b ∷ r))
unfolding sum
seconds n b [] w c s e f = chosen (Seconds b [] w c) (special b) (λ o. absurd cc)
    (λ o. λ g h. h ∙ (sym (ap closes (peel-firm c f)) ∙ ap (λ (x : List ℕ). closes (peel (x ++ c))) (tail-same b [] w g)))
seconds n b (d ∷ r) w c s e f =
    chosen (Seconds b (d ∷ r) w c) (joins b d) (λ j. let k = ordinary_apart b (d ∷ r) s in absurd cc) (λ j.
    chosen (Seconds b (d ∷ r) w c) (special b) (λ o. absurd cc) (λ o.
    chosen (Seconds b (d ∷ r) w c) (b == 40) (λ x. λ g h. second (n + 1) (d ∷ r) w c f (tail-same b _ w g) h) (λ x.
    chosen (Seconds b (d ∷ r) w c) (b == 41 && (n == 0 && closes (peel (d ∷ r)))) (λ y. absurd cc) (λ y.
    chosen (Seconds b (d ∷ r) w c) (b == 41) (λ z. λ g h. second (close_bracket n) (d ∷ r) w c f (tail-same b _ w g) h)
    (λ z. λ g h. second n (d ∷ r) w c f (tail-same b _ w g) h)))))
