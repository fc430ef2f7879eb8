-- Which of two numbers is greater, by their digits.
use Rattle.std.proofs.Common.{◌≡◌, ◌⊎◌, ℕ, ◌+◌, ◌-◌, ◌*◌, ◌<◌, ◌≤◌, Bool, true, false, not, cond, List, [], ◌∷◌, ◌++◌, length, take, drop, Option, None, Some, refl, sym, ◌∙◌, ap, subst, eqb, ltb, leb, arith, inl, inr, length-take, length-drop}
use Rattle.std.specs.Prelude.{◌||◌, ◌&&◌, nat_lt}
use Rattle.std.specs.Char.{is_ascii_digit}
use Rattle.std.specs.List.{list_any}
use Rattle.std.specs.declared.cmp.Ordering.TheVariants.{Less, Equal, Greater}
use Rattle.std.specs.Ordering.{nat_cmp, is_gt, ordering_then}
use Rattle.std.specs.Cmp.Lexicographic.{slice_cmp}
use Rattle.std.proofs.lemmas.Bool.{cases_lt, lt-ltb, le-ltb, leb-true, eqb-true, eq-eqb}
use Rattle.std.proofs.lemmas.List.{take-append-drop}
use Rattle.util_text.specs.Count.{number, number_from}

abbrev pub is_value : ℕ → Bool
is_value b = not (eqb b 48)

false_from : (b : Bool) → (b ≡ true → ⊥) → b ≡ false
false_from true clear = absurd (clear refl)
false_from false clear = refl

number-inv : (word : List ℕ) (n : ℕ) → number word ≡ Some n → number_from 0 word ≡ Some n
number-inv [] n is = cc
number-inv (b ∷ bs) n is = is

some-cond : (c : Bool) (o : Option ℕ) (n : ℕ) → cond c o None ≡ Some n → (c ≡ true) × (o ≡ Some n)
some-cond true o n is = (refl, is)
some-cond false o n is = cc

in-digits : (low high : Bool) → (low && high) ≡ true → (low ≡ true) × (high ≡ true)
in-digits true high is = (refl, is)
in-digits false high is = cc

-- the first digit, and the number of the others
first-digit : (b : ℕ) (bs : List ℕ) (p n : ℕ) → number_from p (b ∷ bs) ≡ Some n → (48 ≤ b) × (b ≤ 57) × (number_from (p * 10 + (b - 48)) bs ≡ Some n)
first-digit b bs p n is =
    let both = some-cond (is_ascii_digit b) (number_from (p * 10 + (b - 48)) bs) n is in
    let ends = in-digits (leb 48 b) (leb b 57) both.0 in
    (leb-true 48 b ends.0, leb-true b 57 ends.1, both.1)

-- behind a smaller number, also many digits write a smaller one
less : (q b : List ℕ) (p r m n : ℕ) → length q ≡ length b → r < p → number_from p q ≡ Some m → number_from r b ≡ Some n → n < m
less [] [] p r m n len h is also =
    let a : p ≡ m = cc in
    let c : r ≡ n = cc in
    omega arith
less [] (y ∷ b) p r m n len h is also = absurd (omega arith)
less (x ∷ q) [] p r m n len h is also = absurd (omega arith)
less (x ∷ q) (y ∷ b) p r m n len h is also =
    let d = first-digit x q p m is in
    let e = first-digit y b r n also in
    less q b (p * 10 + (x - 48)) (r * 10 + (y - 48)) m n (omega arith) (omega (arith, d.0, d.1, e.0, e.1)) d.2 e.2

not-equal : (x y : ℕ) → (x ≡ y → ⊥) → eqb x y ≡ false
not-equal x y other = false_from (eqb x y) (λ is. other (eqb-true x y is))

-- behind the same number, the first digits that differ decide
same : (q b : List ℕ) (p m n : ℕ) → length q ≡ length b → number_from p q ≡ Some m → number_from p b ≡ Some n →
    is_gt (slice_cmp nat_cmp q b) ≡ nat_lt n m
same [] [] p m n len is also =
    let a : p ≡ m = cc in
    let c : p ≡ n = cc in
    sym (le-ltb n m (omega arith))
same [] (y ∷ b) p m n len is also = absurd (omega arith)
same (x ∷ q) [] p m n len is also = absurd (omega arith)
same (x ∷ q) (y ∷ b) p m n len is also =
    let d = first-digit x q p m is in
    let e = first-digit y b p n also in
    let rest = slice_cmp nat_cmp q b in
    elim (cases_lt x y) [
      | inl h ↦ (
          let lower : m < n = less b q (p * 10 + (y - 48)) (p * 10 + (x - 48)) n m (omega arith) (omega (arith, d.0, e.0)) e.2 d.2 in
          ap (λ (c : Bool). is_gt (ordering_then (cond c Less (cond (eqb x y) Equal Greater)) rest)) (lt-ltb x y h)
          ∙ sym (le-ltb n m (omega arith))
          )
      | inr h ↦ elim (cases_lt y x) [
        | inl g ↦ (
            let higher : n < m = less q b (p * 10 + (x - 48)) (p * 10 + (y - 48)) m n (omega arith) (omega (arith, d.0, e.0)) d.2 e.2 in
            let other : eqb x y ≡ false = not-equal x y (λ i. omega arith) in
            ap (λ (c : Bool). is_gt (ordering_then (cond c Less (cond (eqb x y) Equal Greater)) rest)) (le-ltb x y h)
            ∙ ap (λ (c : Bool). is_gt (ordering_then (cond c Equal Greater) rest)) other
            ∙ sym (lt-ltb n m higher)
            )
        | inr g ↦ (
            let equal : x ≡ y = omega arith in
            let also' : number_from (p * 10 + (x - 48)) b ≡ Some n = ap (λ (z : ℕ). number_from (p * 10 + (z - 48)) b) equal ∙ e.2 in
            ap (λ (c : Bool). is_gt (ordering_then (cond c Less (cond (eqb x y) Equal Greater)) rest)) (le-ltb x y h)
            ∙ ap (λ (c : Bool). is_gt (ordering_then (cond c Equal Greater) rest)) (eq-eqb x y equal)
            ∙ same q b (p * 10 + (x - 48)) m n (omega arith) d.2 also'
            )
      ]
    ]

-- ---- the digits that one number has more

-- what stands before digits: a number that is above 0 where a digit of it is no 0, or where one was before
pub record Front (p m : ℕ) (front back : List ℕ) : Type 0 where
  pub value : ℕ
  pub reads : number_from value back ≡ Some m
  pub stays : 0 < p → 0 < value
  pub some : list_any (λ b. is_value b) front ≡ true → 0 < value
  pub none : list_any (λ b. is_value b) front ≡ false → p ≡ 0 → value ≡ 0

or-cases : (a b : Bool) → (a || b) ≡ true → (a ≡ true) ⊎ (b ≡ true)
or-cases true b is = inl refl
or-cases false b is = inr is

or-none : (a b : Bool) → (a || b) ≡ false → (a ≡ false) × (b ≡ false)
or-none true b is = cc
or-none false b is = (refl, is)

not-zero : (b : ℕ) → is_value b ≡ true → b ≡ 48 → ⊥
not-zero b value is = let e : eqb b 48 ≡ true = eq-eqb b 48 is in cc

not-true : (c : Bool) → not c ≡ false → c ≡ true
not-true true is = refl
not-true false is = cc

front : (xs back : List ℕ) (p m : ℕ) → number_from p (xs ++ back) ≡ Some m → Front p m xs back
front [] back p m is = record { value = p; reads = is; stays = λ h. h; some = λ h. cc; none = λ h z. z }
front (x ∷ xs) back p m is =
    let d = first-digit x (xs ++ back) p m is in
    let more = front xs back (p * 10 + (x - 48)) m d.2 in
    record {
      value = more.value;
      reads = more.reads;
      stays = λ h. more.stays (omega arith);
      some = λ h. elim (or-cases (is_value x) (list_any (λ b. is_value b) xs) h) [
        | inl here ↦ more.stays (let other : x ≡ 48 → ⊥ = not-zero x here in omega (arith, d.0, other))
        | inr later ↦ more.some later
      ];
      none = λ h z.
          let both = or-none (is_value x) (list_any (λ b. is_value b) xs) h in
          let zero : x ≡ 48 = eqb-true x 48 (not-true (eqb x 48) both.0) in
          more.none both.1 (omega arith);
    }

module _ (a b : List ℕ) (m n i j : ℕ) (il : i ≡ length a - length b) (jl : j ≡ length b - length a) (am : number a ≡ Some m) (bn : number b ≡ Some n) where
  split-a : Front 0 m (take i a) (drop i a)
  split-a = front (take i a) (drop i a) 0 m (ap (λ (u : List ℕ). number_from 0 u) (take-append-drop i a) ∙ number-inv a m am)

  split-b : Front 0 n (take j b) (drop j b)
  split-b = front (take j b) (drop j b) 0 n (ap (λ (u : List ℕ). number_from 0 u) (take-append-drop j b) ∙ number-inv b n bn)

  same-length : length (drop i a) ≡ length (drop j b)
  same-length = omega (arith, length-drop i a, length-drop j b)

  empty : (xs : List ℕ) → length xs ≡ 0 → list_any (λ b. is_value b) xs ≡ false
  empty [] h = refl
  empty (x ∷ xs) h = absurd (omega arith)

  short : (xs : List ℕ) → list_any (λ b. is_value b) xs ≡ true → 0 < length xs
  short [] h = cc
  short (x ∷ xs) h = omega arith

  pub greater-first : list_any (λ b. is_value b) (take i a) ≡ true → true ≡ nat_lt n m
  greater-first value =
      let has = short (take i a) value in
      let none : split-b.value ≡ 0 = split-b.none (empty (take j b) (omega (arith, has, length-take i a, length-take j b))) refl in
      let some : 0 < split-a.value = split-a.some value in
      sym (lt-ltb n m (less (drop i a) (drop j b) split-a.value split-b.value m n same-length (omega arith) split-a.reads split-b.reads))

  pub greater-second : list_any (λ b. is_value b) (take i a) ≡ false → list_any (λ b. is_value b) (take j b) ≡ true → false ≡ nat_lt n m
  greater-second clear value =
      let none : split-a.value ≡ 0 = split-a.none clear refl in
      let some : 0 < split-b.value = split-b.some value in
      let lower : m < n = less (drop j b) (drop i a) split-b.value split-a.value n m (sym same-length) (omega arith) split-b.reads split-a.reads in
      sym (le-ltb n m (omega arith))

  pub greater-neither : list_any (λ b. is_value b) (take i a) ≡ false → list_any (λ b. is_value b) (take j b) ≡ false →
      is_gt (slice_cmp nat_cmp (drop i a) (drop j b)) ≡ nat_lt n m
  greater-neither clear also =
      let none : split-a.value ≡ 0 = split-a.none clear refl in
      let gone : split-b.value ≡ 0 = split-b.none also refl in
      same (drop i a) (drop j b) 0 m n same-length
      (ap (λ (p : ℕ). number_from p (drop i a)) (sym none) ∙ split-a.reads)
      (ap (λ (p : ℕ). number_from p (drop j b)) (sym gone) ∙ split-b.reads)
