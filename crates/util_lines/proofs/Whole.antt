-- Numbers by their digits: which of two is greater, and whether one is 0.
use Rattle.std.proofs.Common.{◌≡◌, ◌⊎◌, ℕ, zero, suc, ◌+◌, ◌-◌, ◌*◌, ◌<◌, ◌≤◌, Bool, true, false, not, cond, List, [], ◌∷◌, ◌++◌, length, take, drop, refl, sym, ◌∙◌, ap, eqb, ltb, leb, arith, inl, inr, length-take, length-drop}
use Rattle.std.specs.Prelude.{◌||◌, ◌&&◌}
use Rattle.std.specs.Char.{is_ascii_digit}
use Rattle.std.specs.List.{list_any}
use Rattle.std.specs.declared.cmp.Ordering.{Ordering}
use Rattle.std.specs.declared.cmp.Ordering.TheVariants.{Less, Equal, Greater}
use Rattle.std.specs.Ordering.{nat_cmp, ordering_then}
use Rattle.std.specs.Cmp.Lexicographic.{slice_cmp}
use Rattle.std.proofs.lemmas.Bool.{cases_lt, lt-ltb, le-ltb, leb-true, eqb-true, eq-eqb}
use Rattle.std.proofs.lemmas.List.{take-append-drop}
use Rattle.util_lines.specs.Decimals.{digits, number, number_from}

abbrev pub is_value : ℕ → Bool
is_value b = not (eqb b 48)

false_from : (b : Bool) → (b ≡ true → ⊥) → b ≡ false
false_from true clear = absurd (clear refl)
false_from false clear = refl

in-digits : (low high : Bool) → (low && high) ≡ true → (low ≡ true) × (high ≡ true)
in-digits true high is = (refl, is)
in-digits false high is = cc

-- ---- digits alone

some-cond : (c : Bool) (b : ℕ) (ds bs : List ℕ) → cond c (b ∷ ds) [] ≡ b ∷ bs → (c ≡ true) × (ds ≡ bs)
some-cond true b ds bs is = let e : ds ≡ bs = cc in (refl, e)
some-cond false b ds bs is = cc

-- the first one, and the others
first-digit : (b : ℕ) (bs : List ℕ) → digits (b ∷ bs) ≡ b ∷ bs → (48 ≤ b) × (b ≤ 57) × (digits bs ≡ bs)
first-digit b bs is =
    let both = some-cond (is_ascii_digit b) b (digits bs) bs is in
    let ends = in-digits (leb 48 b) (leb b 57) both.0 in
    (leb-true 48 b ends.0, leb-true b 57 ends.1, both.1)

again-cond : (c : Bool) (b : ℕ) (ds : List ℕ) → (c ≡ true → is_ascii_digit b ≡ true) → digits ds ≡ ds → digits (cond c (b ∷ ds) []) ≡ cond c (b ∷ ds) []
again-cond true b ds h is = ap (λ (d : Bool). cond d (b ∷ digits ds) []) (h refl) ∙ ap (λ (u : List ℕ). b ∷ u) is
again-cond false b ds h is = refl

-- what comes first are digits
pub digits_again : (text : List ℕ) → digits (digits text) ≡ digits text
digits_again [] = refl
digits_again (b ∷ bs) = again-cond (is_ascii_digit b) b (digits bs) (λ h. h) (digits_again bs)

digits-drop : (k : ℕ) (xs : List ℕ) → digits xs ≡ xs → digits (drop k xs) ≡ drop k xs
digits-drop zero [] is = refl
digits-drop (suc k) [] is = refl
digits-drop zero (x ∷ xs) is = is
digits-drop (suc k) (x ∷ xs) is = digits-drop k xs (first-digit x xs is).2

-- ---- the first digits that differ decide

-- behind a smaller number, also as many digits write a smaller one
less : (q b : List ℕ) (p r : ℕ) → digits q ≡ q → digits b ≡ b → length q ≡ length b → r < p → number_from r b < number_from p q
less [] [] p r qs bs len h = h
less [] (y ∷ b) p r qs bs len h = absurd (omega arith)
less (x ∷ q) [] p r qs bs len h = absurd (omega arith)
less (x ∷ q) (y ∷ b) p r qs bs len h =
    let d = first-digit x q qs in
    let e = first-digit y b bs in
    less q b (p * 10 + (x - 48)) (r * 10 + (y - 48)) d.2 e.2 (omega arith) (omega (arith, d.0, d.1, e.0, e.1))

not-equal : (x y : ℕ) → (x ≡ y → ⊥) → eqb x y ≡ false
not-equal x y other = false_from (eqb x y) (λ is. other (eqb-true x y is))

is-less : (m n : ℕ) → m < n → nat_cmp m n ≡ Less
is-less m n h = ap (λ (c : Bool). cond c Less (cond (eqb m n) Equal Greater)) (lt-ltb m n h)

is-greater : (m n : ℕ) → n < m → nat_cmp m n ≡ Greater
is-greater m n h =
    ap (λ (c : Bool). cond c Less (cond (eqb m n) Equal Greater)) (le-ltb m n (omega arith))
    ∙ ap (λ (c : Bool). cond c Equal Greater) (not-equal m n (λ i. omega arith))

is-equal : (m n : ℕ) → m ≡ n → nat_cmp m n ≡ Equal
is-equal m n h =
    ap (λ (c : Bool). cond c Less (cond (eqb m n) Equal Greater)) (le-ltb m n (omega arith))
    ∙ ap (λ (c : Bool). cond c Equal Greater) (eq-eqb m n h)

same : (q b : List ℕ) (p : ℕ) → digits q ≡ q → digits b ≡ b → length q ≡ length b → slice_cmp nat_cmp q b ≡ nat_cmp (number_from p q) (number_from p b)
same [] [] p qs bs len = sym (is-equal p p refl)
same [] (y ∷ b) p qs bs len = absurd (omega arith)
same (x ∷ q) [] p qs bs len = absurd (omega arith)
same (x ∷ q) (y ∷ b) p qs bs len =
    let d = first-digit x q qs in
    let e = first-digit y b bs in
    let rest = slice_cmp nat_cmp q b in
    let m = number_from (p * 10 + (x - 48)) q in
    let n = number_from (p * 10 + (y - 48)) b in
    elim (cases_lt x y) [
      | inl h ↦ (
          let lower : m < n = less b q (p * 10 + (y - 48)) (p * 10 + (x - 48)) e.2 d.2 (omega arith) (omega (arith, d.0, e.0)) in
          ap (λ (o : Ordering). ordering_then o rest) (is-less x y h) ∙ sym (is-less m n lower)
          )
      | inr h ↦ elim (cases_lt y x) [
        | inl g ↦ (
            let higher : n < m = less q b (p * 10 + (x - 48)) (p * 10 + (y - 48)) d.2 e.2 (omega arith) (omega (arith, d.0, e.0)) in
            ap (λ (o : Ordering). ordering_then o rest) (is-greater x y g) ∙ sym (is-greater m n higher)
            )
        | inr g ↦ (
            let equal : x ≡ y = omega arith in
            ap (λ (o : Ordering). ordering_then o rest) (is-equal x y equal)
            ∙ same q b (p * 10 + (x - 48)) d.2 e.2 (omega arith)
            ∙ ap (λ (z : ℕ). nat_cmp m (number_from (p * 10 + (z - 48)) b)) equal
            )
      ]
    ]

-- ---- the digits that one number has more

or-cases : (a b : Bool) → (a || b) ≡ true → (a ≡ true) ⊎ (b ≡ true)
or-cases true b is = inl refl
or-cases false b is = inr is

or-none : (a b : Bool) → (a || b) ≡ false → (a ≡ false) × (b ≡ false)
or-none true b is = cc
or-none false b is = (refl, is)

not-zero : (b : ℕ) → is_value b ≡ true → b ≡ 48 → ⊥
not-zero b value is = let e : eqb b 48 ≡ true = eq-eqb b 48 is in cc

not-true : (c : Bool) → not c ≡ false → c ≡ true
not-true true is = refl
not-true false is = cc

stays : (xs : List ℕ) (p : ℕ) → 0 < p → 0 < number_from p xs
stays [] p h = h
stays (x ∷ xs) p h = stays xs (p * 10 + (x - 48)) (omega arith)

pub some-value : (xs : List ℕ) (p : ℕ) → digits xs ≡ xs → list_any (λ b. is_value b) xs ≡ true → 0 < number_from p xs
some-value [] p ds h = cc
some-value (x ∷ xs) p ds h =
    let d = first-digit x xs ds in
    elim (or-cases (is_value x) (list_any (λ b. is_value b) xs) h) [
      | inl here ↦ stays xs (p * 10 + (x - 48)) (let other : x ≡ 48 → ⊥ = not-zero x here in omega (arith, d.0, other))
      | inr later ↦ some-value xs (p * 10 + (x - 48)) d.2 later
    ]

pub no-value : (xs : List ℕ) → list_any (λ b. is_value b) xs ≡ false → number_from 0 xs ≡ 0
no-value [] h = refl
no-value (x ∷ xs) h =
    let both = or-none (is_value x) (list_any (λ b. is_value b) xs) h in
    let zero : x ≡ 48 = eqb-true x 48 (not-true (eqb x 48) both.0) in
    let none : 0 * 10 + (x - 48) ≡ 0 = omega arith in
    ap (λ (p : ℕ). number_from p xs) none ∙ no-value xs both.1

number-append : (xs ys : List ℕ) (p : ℕ) → number_from p (xs ++ ys) ≡ number_from (number_from p xs) ys
number-append [] ys p = refl
number-append (x ∷ xs) ys p = number-append xs ys (p * 10 + (x - 48))

number-split : (k : ℕ) (xs : List ℕ) → number xs ≡ number_from (number (take k xs)) (drop k xs)
number-split k xs = ap (λ (u : List ℕ). number_from 0 u) (sym (take-append-drop k xs)) ∙ number-append (take k xs) (drop k xs) 0

digits-take : (k : ℕ) (xs : List ℕ) → digits xs ≡ xs → digits (take k xs) ≡ take k xs
digits-take zero [] is = refl
digits-take (suc k) [] is = refl
digits-take zero (x ∷ xs) is = refl
digits-take (suc k) (x ∷ xs) is =
    let d = first-digit x xs is in
    let both = some-cond (is_ascii_digit x) x (digits xs) xs is in
    ap (λ (c : Bool). cond c (x ∷ digits (take k xs)) []) both.0 ∙ ap (λ (u : List ℕ). x ∷ u) (digits-take k xs d.2)

empty : (xs : List ℕ) → length xs ≡ 0 → list_any (λ b. is_value b) xs ≡ false
empty [] h = refl
empty (x ∷ xs) h = absurd (omega arith)

short : (xs : List ℕ) → list_any (λ b. is_value b) xs ≡ true → 0 < length xs
short [] h = cc
short (x ∷ xs) h = omega arith

module _ (a b : List ℕ) (i j : ℕ) (il : i ≡ length a - length b) (jl : j ≡ length b - length a) (one : digits a ≡ a) (two : digits b ≡ b) where
  same-length : length (drop i a) ≡ length (drop j b)
  same-length = omega (arith, length-drop i a, length-drop j b)

  told : (m n : ℕ) → m ≡ number (take i a) → n ≡ number (take j b) → nat_cmp (number_from m (drop i a)) (number_from n (drop j b)) ≡ nat_cmp (number a) (number b)
  told m n e f =
      ap (λ (p : ℕ). nat_cmp (number_from p (drop i a)) (number_from n (drop j b))) e
      ∙ ap (λ (p : ℕ). nat_cmp p (number_from n (drop j b))) (sym (number-split i a))
      ∙ ap (λ (p : ℕ). nat_cmp (number a) (number_from p (drop j b))) f
      ∙ ap (λ (p : ℕ). nat_cmp (number a) p) (sym (number-split j b))

  pub greater-first : list_any (λ b. is_value b) (take i a) ≡ true → Greater ≡ nat_cmp (number a) (number b)
  greater-first value =
      let has = short (take i a) value in
      let none : number (take j b) ≡ 0 = no-value (take j b) (empty (take j b) (omega (arith, has, length-take i a, length-take j b))) in
      let some : 0 < number (take i a) = some-value (take i a) 0 (digits-take i a one) value in
      sym (is-greater (number_from (number (take i a)) (drop i a)) (number_from (number (take j b)) (drop j b))
      (less (drop i a) (drop j b) (number (take i a)) (number (take j b)) (digits-drop i a one) (digits-drop j b two) same-length (omega arith)))
      ∙ told (number (take i a)) (number (take j b)) refl refl

  pub greater-second : list_any (λ b. is_value b) (take i a) ≡ false → list_any (λ b. is_value b) (take j b) ≡ true → Less ≡ nat_cmp (number a) (number b)
  greater-second clear value =
      let none : number (take i a) ≡ 0 = no-value (take i a) clear in
      let some : 0 < number (take j b) = some-value (take j b) 0 (digits-take j b two) value in
      sym (is-less (number_from (number (take i a)) (drop i a)) (number_from (number (take j b)) (drop j b))
      (less (drop j b) (drop i a) (number (take j b)) (number (take i a)) (digits-drop j b two) (digits-drop i a one) (sym same-length) (omega arith)))
      ∙ told (number (take i a)) (number (take j b)) refl refl

  pub greater-neither : list_any (λ b. is_value b) (take i a) ≡ false → list_any (λ b. is_value b) (take j b) ≡ false →
      slice_cmp nat_cmp (drop i a) (drop j b) ≡ nat_cmp (number a) (number b)
  greater-neither clear also =
      same (drop i a) (drop j b) 0 (digits-drop i a one) (digits-drop j b two) same-length
      ∙ told 0 0 (sym (no-value (take i a) clear)) (sym (no-value (take j b) also))
