-- Spans without the places of those before them.
use Rattle.std.proofs.Common.{◌≡◌, ◌⊎◌, ℕ, zero, suc, ◌+◌, ◌-◌, ◌^◌, ◌<◌, ◌≤◌, min, max, Bool, true, false, cond, List, [], ◌∷◌, length, get_or, map, Option, None, Some, refl, sym, ◌∙◌, ap, inl, inr, leb, ltb, arith}
use Rattle.std.specs.Prelude.{◌&&◌, ◌||◌, nat_lt, nat_le}
use Rattle.std.specs.List.{list_any}
use Rattle.std.specs.List.Sorted.{IsNonDecreasingBy}
use Rattle.std.proofs.lemmas.Bool.{cases_lt, le-leb, lt-leb, lt-ltb, le-ltb, ltb-true, leb-true}
use Rattle.util_text.specs.declared.places.Span.{Span}
use Rattle.util_text.specs.Places.{Range, up_to, in_range, selects}
use Rattle.util_text.specs.Spans.{end_of, span_of, in_span, in_spans, is_apart, Ascend}

-- the spans without the places up to this one, and without those of spans before them
abbrev pub trim : ℕ → List Span → List Span
trim end [] = []
trim end (s ∷ more) =
    cond (nat_lt end s.high && nat_le s.low s.high) (record { low = max s.low (end + 1); high = s.high } ∷ trim s.high more) (trim end more)

and-true : (a b : Bool) → (a && b) ≡ true → (a ≡ true) × (b ≡ true)
and-true true b is = (refl, is)
and-true false b is = cc

and-made : (a b : Bool) → a ≡ true → b ≡ true → (a && b) ≡ true
and-made a b is also = ap (λ (c : Bool). c && b) is ∙ also

-- whether the first span is kept
kept : (end low high : ℕ) → ((end < high) × (low ≤ high) × ((nat_lt end high && nat_le low high) ≡ true)) ⊎ (((high ≤ end) ⊎ (high < low)) × ((nat_lt end high && nat_le low high) ≡ false))
kept end low high = elim (cases_lt end high) [
  | inl h ↦ elim (cases_lt high low) [
    | inl g ↦ inr (inr g, ap (λ (c : Bool). c && nat_le low high) (lt-ltb end high h) ∙ lt-leb low high g)
    | inr g ↦ inl (h, g, and-made (nat_lt end high) (nat_le low high) (lt-ltb end high h) (le-leb low high g))
  ]
  | inr h ↦ inr (inl h, ap (λ (c : Bool). c && nat_le low high) (le-ltb end high h))
]

pub trim-apart : (end : ℕ) (spans : List Span) → is_apart end (trim end spans) ≡ true
trim-apart end [] = refl
trim-apart end (s ∷ more) =
    let made : List Span = record { low = max s.low (end + 1); high = s.high } ∷ trim s.high more in
    elim (kept end s.low s.high) [
      | inl h ↦ ap (λ (c : Bool). is_apart end (cond c made (trim end more))) h.2
          ∙ and-made (nat_lt end (max s.low (end + 1))) (nat_le (max s.low (end + 1)) s.high && is_apart s.high (trim s.high more))
          (lt-ltb end (max s.low (end + 1)) (let below = h.0 in omega arith))
          (and-made (nat_le (max s.low (end + 1)) s.high) (is_apart s.high (trim s.high more))
          (le-leb (max s.low (end + 1)) s.high (let below = h.0 in let rises = h.1 in omega arith)) (trim-apart s.high more))
      | inr h ↦ ap (λ (c : Bool). is_apart end (cond c made (trim end more))) h.1 ∙ trim-apart end more
    ]

-- ---- places that no span has

outside-below : (low high place : ℕ) → place < low → (nat_le low place && nat_le place high) ≡ false
outside-below low high place h = ap (λ (c : Bool). c && nat_le place high) (lt-leb low place h)

and-false : (a : Bool) → (a && false) ≡ false
and-false true = refl
and-false false = refl

outside-above : (low high place : ℕ) → high < place → (nat_le low place && nat_le place high) ≡ false
outside-above low high place h = ap (λ (c : Bool). nat_le low place && c) (lt-leb place high h) ∙ and-false (nat_le low place)

inside : (low high place : ℕ) → low ≤ place → place ≤ high → (nat_le low place && nat_le place high) ≡ true
inside low high place l h = and-made (nat_le low place) (nat_le place high) (le-leb low place l) (le-leb place high h)

or-made : (a b : Bool) → a ≡ false → b ≡ false → (a || b) ≡ false
or-made a b is also = ap (λ (c : Bool). c || b) is ∙ also

pub apart-parts : (behind : ℕ) (s : Span) (more : List Span) → is_apart behind (s ∷ more) ≡ true →
    (behind < s.low) × (s.low ≤ s.high) × (is_apart s.high more ≡ true)
apart-parts behind s more is =
    let first = and-true (nat_lt behind s.low) (nat_le s.low s.high && is_apart s.high more) is in
    let second = and-true (nat_le s.low s.high) (is_apart s.high more) first.1 in
    (ltb-true behind s.low first.0, leb-true s.low s.high second.0, second.1)

pub apart-none : (behind : ℕ) (spans : List Span) (place : ℕ) → is_apart behind spans ≡ true → place ≤ behind → in_spans spans place ≡ false
apart-none behind [] place is h = refl
apart-none behind (s ∷ more) place is h =
    let p = apart-parts behind s more is in
    let low = p.0 in
    let high = p.1 in
    or-made (in_span s place) (in_spans more place) (outside-below s.low s.high place (omega arith)) (apart-none s.high more place p.2 (omega arith))

ascend-none : (least : ℕ) (spans : List Span) (place : ℕ) → Ascend least spans → place < least → in_spans spans place ≡ false
ascend-none least [] place up h = refl
ascend-none least (s ∷ more) place up h =
    let low = up.0 in
    or-made (in_span s place) (in_spans more place) (outside-below s.low s.high place (omega arith)) (ascend-none s.low more place up.1 (omega arith))

-- ---- the places stay

first-gone : (end : ℕ) (s : Span) (place : ℕ) → (s.high ≤ end) ⊎ (s.high < s.low) → end < place → in_span s place ≡ false
first-gone end s place (inl low) h = outside-above s.low s.high place (omega arith)
first-gone end s place (inr falls) h = elim (cases_lt place s.low) [
  | inl g ↦ outside-below s.low s.high place g
  | inr g ↦ outside-above s.low s.high place (omega arith)
]

first-kept : (end : ℕ) (s : Span) (more : List Span) (place : ℕ) → Ascend s.low more → end < place →
    (s.high < place → in_spans (trim s.high more) place ≡ in_spans more place) →
    ((nat_le (max s.low (end + 1)) place && nat_le place s.high) || in_spans (trim s.high more) place) ≡ (in_span s place || in_spans more place)
first-kept end s more place up h later = elim (cases_lt s.high place) [
  | inl g ↦ ap (λ (c : Bool). c || in_spans (trim s.high more) place) (outside-above (max s.low (end + 1)) s.high place g)
      ∙ later g
      ∙ sym (ap (λ (c : Bool). c || in_spans more place) (outside-above s.low s.high place g))
  | inr g ↦ elim (cases_lt place s.low) [
    | inl b ↦ or-made (nat_le (max s.low (end + 1)) place && nat_le place s.high) (in_spans (trim s.high more) place)
        (outside-below (max s.low (end + 1)) s.high place (omega arith))
        (apart-none s.high (trim s.high more) place (trim-apart s.high more) g)
        ∙ sym (or-made (in_span s place) (in_spans more place) (outside-below s.low s.high place b) (ascend-none s.low more place up b))
    | inr b ↦ ap (λ (c : Bool). c || in_spans (trim s.high more) place) (inside (max s.low (end + 1)) s.high place (omega arith) g)
        ∙ sym (ap (λ (c : Bool). c || in_spans more place) (inside s.low s.high place b g))
  ]
]

pub trim-has : (end least : ℕ) (spans : List Span) (place : ℕ) → Ascend least spans → end < place → in_spans (trim end spans) place ≡ in_spans spans place
trim-has end least [] place up h = refl
trim-has end least (s ∷ more) place up h =
    let made : List Span = record { low = max s.low (end + 1); high = s.high } ∷ trim s.high more in
    elim (kept end s.low s.high) [
      | inl k ↦ ap (λ (c : Bool). in_spans (cond c made (trim end more)) place) k.2
          ∙ first-kept end s more place up.1 h (λ g. trim-has s.high s.low more place up.1 g)
      | inr k ↦ ap (λ (c : Bool). in_spans (cond c made (trim end more)) place) k.1
          ∙ trim-has end s.low more place up.1 h
          ∙ sym (ap (λ (c : Bool). c || in_spans more place) (first-gone end s place k.0 h))
    ]

-- ---- the order after a sort

pub ascend-from_sorted : (least : ℕ) (spans : List Span) → ((i : ℕ) (d : Span) → i < length spans → least ≤ (get_or spans i d).low) →
    IsNonDecreasingBy (λ s. s.low) spans → Ascend least spans
ascend-from_sorted least [] above sorted = tt
ascend-from_sorted least (s ∷ more) above sorted = (
  above 0 s (omega arith),
  ascend-from_sorted s.low more (λ i d h. sorted 0 (suc i) d (omega arith) (omega arith))
      (λ i j d l h. sorted (suc i) (suc j) d (omega arith) (omega arith)),
)

-- ---- counts that stand for numbers

leb-min : (m place : ℕ) → place ≤ 2 ^ 63 → nat_le (min m (2 ^ 64 - 1)) place ≡ nat_le m place
leb-min m place h = elim (cases_lt place m) [
  | inl g ↦ lt-leb (min m (2 ^ 64 - 1)) place (omega arith) ∙ sym (lt-leb m place g)
  | inr g ↦ le-leb (min m (2 ^ 64 - 1)) place (omega arith) ∙ sym (le-leb m place g)
]

end-min : (high : Option ℕ) (place : ℕ) → place ≤ 2 ^ 63 → nat_le place (end_of high) ≡ up_to high place
end-min None place h = le-leb place (2 ^ 64 - 1) (omega arith)
end-min (Some n) place h = elim (cases_lt n place) [
  | inl g ↦ lt-leb place (min n (2 ^ 64 - 1)) (omega arith) ∙ sym (lt-leb place n g)
  | inr g ↦ le-leb place (min n (2 ^ 64 - 1)) (omega arith) ∙ sym (le-leb place n g)
]

pub spans-select : (ranges : List Range) (place : ℕ) → place ≤ 2 ^ 63 → in_spans (map (λ r. span_of r) ranges) place ≡ selects ranges place
spans-select [] place h = refl
spans-select (r ∷ more) place h =
    ap (λ (c : Bool). (c && nat_le place (end_of r.high)) || in_spans (map (λ r. span_of r) more) place) (leb-min r.low place h)
    ∙ ap (λ (c : Bool). (nat_le r.low place && c) || in_spans (map (λ r. span_of r) more) place) (end-min r.high place h)
    ∙ ap (λ (c : Bool). in_range r place || c) (spans-select more place h)
