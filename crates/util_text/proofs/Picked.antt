-- The bytes of a line that spans choose.
use Rattle.std.proofs.Common.{◌≡◌, ℕ, zero, suc, ◌+◌, ◌-◌, ◌^◌, ◌<◌, ◌≤◌, min, Bool, true, false, cond, List, [], ◌∷◌, ◌++◌, length, take, drop, refl, sym, ◌∙◌, ap, inl, inr, arith, append-nil, append_assoc, length-take, length-drop, add-zero}
use Rattle.std.specs.Prelude.{◌&&◌, ◌||◌, nat_le}
use Rattle.std.specs.List.{flat_map}
use Rattle.std.proofs.lemmas.Bool.{le-leb, lt-leb}
use Rattle.std.proofs.lemmas.List.{take_all, take_min, drop_all, drop-drop}
use Rattle.util_text.specs.declared.places.Span.{Span}
use Rattle.util_text.specs.Cut.{chosen}
use Rattle.util_text.specs.Spans.{in_span, in_spans, is_apart}
use Rattle.util_text.proofs.Trims.{apart-parts, apart-none}

-- what a span has of a line
abbrev pub piece : List ℕ → Span → List ℕ
piece line s = take (s.high + 1 - s.low) (drop (s.low - 1) line)

chosen-split : (test : ℕ → Bool) (n place : ℕ) (xs : List ℕ) → chosen test place xs ≡ chosen test place (take n xs) ++ chosen test (place + n) (drop n xs)
chosen-split test zero place xs = ap (λ (p : ℕ). chosen test p xs) (sym (add-zero place))
chosen-split test (suc n) place [] = refl
chosen-split test (suc n) place (x ∷ xs) =
    let next : suc place + n ≡ place + suc n = omega arith in
    let rest : chosen test (suc place) xs ≡ chosen test (suc place) (take n xs) ++ chosen test (place + suc n) (drop n xs) =
    chosen-split test n (suc place) xs ∙ ap (λ (p : ℕ). chosen test (suc place) (take n xs) ++ chosen test p (drop n xs)) next in
    ap (λ (u : List ℕ). cond (test place) (x ∷ u) u) rest ∙ split (test place) x (chosen test (suc place) (take n xs)) (chosen test (place + suc n) (drop n xs))
  where
    split : (c : Bool) (x : ℕ) (a b : List ℕ) → cond c (x ∷ (a ++ b)) (a ++ b) ≡ cond c (x ∷ a) a ++ b
    split true x a b = refl
    split false x a b = refl

chosen-none : (test : ℕ → Bool) (place : ℕ) (xs : List ℕ) → ((k : ℕ) → place ≤ k → k < place + length xs → test k ≡ false) → chosen test place xs ≡ []
chosen-none test place [] clear = refl
chosen-none test place (x ∷ xs) clear =
    ap (λ (c : Bool). cond c (x ∷ chosen test (suc place) xs) (chosen test (suc place) xs)) (clear place (omega arith) (omega arith))
    ∙ chosen-none test (suc place) xs (λ k l h. clear k (omega arith) (omega arith))

chosen-all : (test : ℕ → Bool) (place : ℕ) (xs : List ℕ) → ((k : ℕ) → place ≤ k → k < place + length xs → test k ≡ true) → chosen test place xs ≡ xs
chosen-all test place [] all = refl
chosen-all test place (x ∷ xs) all =
    ap (λ (c : Bool). cond c (x ∷ chosen test (suc place) xs) (chosen test (suc place) xs)) (all place (omega arith) (omega arith))
    ∙ ap (λ (u : List ℕ). x ∷ u) (chosen-all test (suc place) xs (λ k l h. all k (omega arith) (omega arith)))

or-left : (a b : Bool) → a ≡ true → (a || b) ≡ true
or-left a b is = ap (λ (c : Bool). c || b) is

pub in-first : (s : Span) (more : List Span) (k : ℕ) → s.low ≤ k → k ≤ s.high → in_spans (s ∷ more) k ≡ true
in-first s more k l h =
    or-left (in_span s k) (in_spans more k) (ap (λ (c : Bool). c && nat_le k s.high) (le-leb s.low k l) ∙ le-leb k s.high h)

and-false : (a : Bool) → (a && false) ≡ false
and-false true = refl
and-false false = refl

pub behind-first : (s : Span) (more : List Span) (k : ℕ) → s.high < k → in_spans (s ∷ more) k ≡ in_spans more k
behind-first s more k h =
    ap (λ (c : Bool). (nat_le s.low k && c) || in_spans more k) (lt-leb k s.high h)
    ∙ ap (λ (c : Bool). c || in_spans more k) (and-false (nat_le s.low k))

pub before-first : (s : Span) (more : List Span) (k : ℕ) → k < s.low → s.low ≤ s.high → is_apart s.high more ≡ true → in_spans (s ∷ more) k ≡ false
before-first s more k h rises apart =
    ap (λ (c : Bool). (c && nat_le k s.high) || in_spans more k) (lt-leb s.low k h) ∙ apart-none s.high more k apart (omega arith)

-- the places behind `end`, where each that the line has passes the test as the spans have it
pub chosen-pieces : (test : ℕ → Bool) (line : List ℕ) (end : ℕ) (spans : List Span) → is_apart end spans ≡ true →
    ((k : ℕ) → end < k → k ≤ length line → test k ≡ in_spans spans k) →
    chosen test (end + 1) (drop end line) ≡ flat_map (λ s. piece line s) spans
chosen-pieces test line end [] apart agrees =
    chosen-none test (end + 1) (drop end line) (λ k l h. agrees k (omega arith) (omega (arith, length-drop end line)))
chosen-pieces test line end (s ∷ more) apart agrees =
    let p = apart-parts end s more apart in
    let low = p.0 in
    let high = p.1 in
    let gap = s.low - 1 - end in
    let wide = s.high + 1 - s.low in
    let rest = drop (s.low - 1) line in
    let from : drop gap (drop end line) ≡ rest =
    let e : end + gap ≡ s.low - 1 = omega arith in drop-drop gap end line ∙ ap (λ (n : ℕ). drop n line) e in
    let onward : drop wide rest ≡ drop s.high line =
    let e : s.low - 1 + wide ≡ s.high = omega arith in drop-drop wide (s.low - 1) line ∙ ap (λ (n : ℕ). drop n line) e in
    let here : end + 1 + gap ≡ s.low = omega arith in
    let there : s.low + wide ≡ s.high + 1 = omega arith in
    let none : chosen test (end + 1) (take gap (drop end line)) ≡ [] =
    chosen-none test (end + 1) (take gap (drop end line)) (λ k l h.
    agrees k (omega arith) (omega (arith, length-take gap (drop end line), length-drop end line))
    ∙ before-first s more k (omega (arith, length-take gap (drop end line))) high p.2) in
    let all : chosen test s.low (take wide rest) ≡ take wide rest =
    chosen-all test s.low (take wide rest) (λ k l h.
    agrees k (omega arith) (omega (arith, length-take wide rest, length-drop (s.low - 1) line))
    ∙ in-first s more k l (omega (arith, length-take wide rest))) in
    chosen-split test gap (end + 1) (drop end line)
    ∙ ap (λ (u : List ℕ). u ++ chosen test (end + 1 + gap) (drop gap (drop end line))) none
    ∙ ap (λ (u : List ℕ). chosen test (end + 1 + gap) u) from
    ∙ ap (λ (n : ℕ). chosen test n rest) here
    ∙ chosen-split test wide s.low rest
    ∙ ap (λ (u : List ℕ). u ++ chosen test (s.low + wide) (drop wide rest)) all
    ∙ ap (λ (u : List ℕ). take wide rest ++ chosen test (s.low + wide) u) onward
    ∙ ap (λ (n : ℕ). take wide rest ++ chosen test n (drop s.high line)) there
    ∙ ap (λ (u : List ℕ). take wide rest ++ u)
    (chosen-pieces test line s.high more p.2 (λ k l h. agrees k (omega arith) h ∙ behind-first s more k l))

-- spans that begin behind the line have nothing of it
pieces-past : (line : List ℕ) (behind : ℕ) (spans : List Span) → is_apart behind spans ≡ true → length line ≤ behind → flat_map (λ s. piece line s) spans ≡ []
pieces-past line behind [] apart h = refl
pieces-past line behind (s ∷ more) apart h =
    let p = apart-parts behind s more apart in
    let low = p.0 in
    let high = p.1 in
    ap (λ (u : List ℕ). take (s.high + 1 - s.low) u ++ flat_map (λ s. piece line s) more) (drop_all (s.low - 1) line (omega arith))
    ∙ ap (λ (u : List ℕ). u ++ flat_map (λ s. piece line s) more) (take_all (s.high + 1 - s.low) [] (omega arith))
    ∙ pieces-past line s.high more p.2 (omega arith)

pub pieces-behind : (line : List ℕ) (end : ℕ) (s : Span) (more : List Span) → is_apart end (s ∷ more) ≡ true → length line < s.low →
    flat_map (λ s. piece line s) (s ∷ more) ≡ []
pieces-behind line end s more apart h =
    let p = apart-parts end s more apart in
    let high = p.1 in
    ap (λ (u : List ℕ). take (s.high + 1 - s.low) u ++ flat_map (λ s. piece line s) more) (drop_all (s.low - 1) line (omega arith))
    ∙ ap (λ (u : List ℕ). u ++ flat_map (λ s. piece line s) more) (take_all (s.high + 1 - s.low) [] (omega arith))
    ∙ pieces-past line s.high more p.2 (omega arith)

-- no span more has anything of the line
pub pieces-done : (test : ℕ → Bool) (line : List ℕ) (spans left : List Span) (out old : List ℕ) → is_apart 0 spans ≡ true →
    ((k : ℕ) → 0 < k → k ≤ length line → test k ≡ in_spans spans k) → flat_map (λ s. piece line s) left ≡ [] →
    out ++ flat_map (λ s. piece line s) left ≡ old ++ flat_map (λ s. piece line s) spans → out ≡ old ++ chosen test 1 line
pieces-done test line spans left out old apart agrees none sofar =
    sym (append-nil out)
    ∙ ap (λ (u : List ℕ). out ++ u) (sym none)
    ∙ sofar
    ∙ ap (λ (u : List ℕ). old ++ u) (sym (chosen-pieces test line 0 spans apart agrees))

pub pieces-behind_first : (line : List ℕ) (end : ℕ) (left more : List Span) (s : Span) → is_apart end left ≡ true → left ≡ s ∷ more → length line < s.low →
    flat_map (λ s. piece line s) left ≡ []
pieces-behind_first line end left more s apart is h =
    ap (λ (u : List Span). flat_map (λ s. piece line s) u) is
    ∙ pieces-behind line end s more (ap (λ (u : List Span). is_apart end u) (sym is) ∙ apart) h

pub pieces-none : (line : List ℕ) (left : List Span) → length left ≡ 0 → flat_map (λ s. piece line s) left ≡ []
pieces-none line [] h = refl
pieces-none line (s ∷ more) h = absurd (omega arith)
