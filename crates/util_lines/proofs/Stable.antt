-- A list is determined by its order and by how equal elements stand in it.
use Rattle.std.proofs.Common.{◌≡◌, ℕ, zero, suc, ◌+◌, ◌<◌, ◌≤◌, Bool, true, false, not, cond, List, [], ◌∷◌, length, get_or, refl, sym, ◌∙◌, ap, subst, arith}
use Rattle.std.specs.Prelude.{◌&&◌}
use Rattle.std.specs.Cmp.{IsTotalOrder}
use Rattle.std.specs.List.{filter}
use Rattle.std.specs.List.Sorted.{IsSortedBy, IsStableBy, ties}
use Rattle.std.specs.Ordering.{is_gt, is_lt, ordering_reverse}
use Rattle.std.specs.declared.cmp.Ordering.{Ordering}
use Rattle.std.specs.declared.cmp.Ordering.TheVariants.{Less, Equal, Greater}
use Rattle.std.proofs.lemmas.Cmp.{upto, tied_itself, alike_right}
use Rattle.std.proofs.lemmas.List.Sorted.{ranks_by, sorted_far}
use Rattle.util_lines.specs.Orders.{inserted, sorted}

-- ---- answers of an order

gt-reverse : (r : Ordering) → is_gt (ordering_reverse r) ≡ is_lt r
gt-reverse Less = refl
gt-reverse Equal = refl
gt-reverse Greater = refl

gt-lt : {X : Type 0} (R : X → X → Ordering) → IsTotalOrder R → (x y : X) → is_gt (R x y) ≡ is_lt (R y x)
gt-lt R o x y = ap is_gt (o.antisymm x y) ∙ gt-reverse (R y x)

not-gt : (r : Ordering) → is_gt r ≡ true → is_lt r ≡ false
not-gt Less h = cc
not-gt Equal h = cc
not-gt Greater h = refl

both-true : (a b : Bool) → (not a && not b) ≡ true → (a ≡ false) × (b ≡ false)
both-true true b h = cc
both-true false true h = cc
both-true false false h = (refl, refl)

equal-from : (r s : Ordering) → r ≡ ordering_reverse s → is_lt r ≡ false → is_lt s ≡ false → r ≡ Equal
equal-from Less s e h i = cc
equal-from Equal s e h i = refl
equal-from Greater Less e h i = cc
equal-from Greater Equal e h i = cc
equal-from Greater Greater e h i = cc

abbrev pub lt : {X : Type 0} → (X → X → Ordering) → X → X → Bool
lt R x y = is_lt (R x y)

ties-equal : {X : Type 0} (R : X → X → Ordering) → IsTotalOrder R → (x y : X) → ties (lt R) x y ≡ true → R x y ≡ Equal
ties-equal R o x y h =
    let both = both-true (lt R x y) (lt R y x) h in
    equal-from (R x y) (R y x) (o.antisymm x y) both.0 both.1

ties-itself : {X : Type 0} (R : X → X → Ordering) → IsTotalOrder R → (x : X) → ties (lt R) x x ≡ true
ties-itself R o x = ap (λ (r : Ordering). not (is_lt r) && not (is_lt r)) (tied_itself o x)

-- ---- ascending lists

-- x is greater than none of these
abbrev pub UpTo : {X : Type 0} → (X → X → Ordering) → X → List X → Type 0
UpTo R x [] = Unit {0}
UpTo R x (y ∷ ys) = (is_gt (R x y) ≡ false) × UpTo R x ys

abbrev pub Ascends : {X : Type 0} → (X → X → Ordering) → List X → Type 0
Ascends R [] = Unit {0}
Ascends R (x ∷ xs) = UpTo R x xs × Ascends R xs

up_to-from : {X : Type 0} (R : X → X → Ordering) (x : X) (ys : List X) → ((j : ℕ) → j < length ys → is_gt (R x (get_or ys j x)) ≡ false) → UpTo R x ys
up_to-from R x [] h = tt
up_to-from R x (y ∷ ys) h = (h 0 (omega arith), up_to-from R x ys (λ j l. h (suc j) (omega arith)))

ascends-far : {X : Type 0} (R : X → X → Ordering) (ys : List X) → ((i j : ℕ) (d : X) → i ≤ j → j < length ys → is_gt (R (get_or ys i d) (get_or ys j d)) ≡ false) → Ascends R ys
ascends-far R [] h = tt
ascends-far R (y ∷ ys) h = (
  up_to-from R y ys (λ j l. h 0 (suc j) y (omega arith) (omega arith)),
  ascends-far R ys (λ i j d m l. h (suc i) (suc j) d (omega arith) (omega arith)),
)

ascends-from : {X : Type 0} (R : X → X → Ordering) → IsTotalOrder R → (ys : List X) → IsSortedBy (lt R) ys → Ascends R ys
ascends-from {X} R o ys h =
    ascends-far R ys (λ i j d m l. gt-lt R o (get_or ys i d) (get_or ys j d) ∙ sorted_far (lt R) (ranks_by o (λ (x : X). x)) ys h i j d m l)

cons-nil : {X : Type 0} (x : X) (xs : List X) → x ∷ xs ≡ [] → ⊥
cons-nil x xs h = cc

-- x is not greater than an element that equals one of them
some-tied-cond : {X : Type 0} (R : X → X → Ordering) → IsTotalOrder R → (x y e : X) (equal : List X) (b : Bool) → ties (lt R) y e ≡ b → is_gt (R x e) ≡ false → ((equal ≡ [] → ⊥) → is_gt (R x y) ≡ false)
    → (cond b (e ∷ equal) equal ≡ [] → ⊥) → is_gt (R x y) ≡ false
some-tied-cond R o x y e equal true is h more some = ap is_gt (alike_right o y e x (ties-equal R o y e is)) ∙ h
some-tied-cond R o x y e equal false is h more some = more some

some-tied : {X : Type 0} (R : X → X → Ordering) → IsTotalOrder R → (x y : X) (ys : List X) → UpTo R x ys → (filter (ties (lt R) y) ys ≡ [] → ⊥) → is_gt (R x y) ≡ false
some-tied R o x y [] up some = absurd (some refl)
some-tied R o x y (e ∷ ys) up some = some-tied-cond R o x y e (filter (ties (lt R) y) ys) (ties (lt R) y e) refl up.0 (some-tied R o x y ys up.1) some

front-up : {X : Type 0} (R : X → X → Ordering) → IsTotalOrder R → (x y : X) (xs : List X) → UpTo R x xs → (filter (ties (lt R) y) (x ∷ xs) ≡ [] → ⊥) → is_gt (R x y) ≡ false
front-up R o x y xs up some = some-tied R o x y (x ∷ xs) (ap is_gt (tied_itself o x), up) some

own-first : {X : Type 0} (R : X → X → Ordering) → IsTotalOrder R → (x : X) (xs : List X) → filter (ties (lt R) x) (x ∷ xs) ≡ x ∷ filter (ties (lt R) x) xs
own-first {X} R o x xs = let more = filter (ties (lt R) x) xs in ap (λ (b : Bool). cond b (x ∷ more) more) (ties-itself R o x)

heads : {X : Type 0} (x y : X) (xs ys : List X) → x ∷ xs ≡ y ∷ ys → x ≡ y
heads x y xs ys h = cc

same-front : {X : Type 0} (R : X → X → Ordering) → IsTotalOrder R → (x y : X) (xs ys : List X) → UpTo R x xs → UpTo R y ys
    → ((z : X) → filter (ties (lt R) z) (x ∷ xs) ≡ filter (ties (lt R) z) (y ∷ ys)) → x ≡ y
same-front R o x y xs ys up vp h =
    let fx = own-first R o x xs in
    let fy = own-first R o y ys in
    let a : is_gt (R x y) ≡ false = front-up R o x y xs up (λ none. cons-nil y (filter (ties (lt R) y) ys) (sym fy ∙ sym (h y) ∙ none)) in
    let b : is_gt (R y x) ≡ false = front-up R o y x ys vp (λ none. cons-nil x (filter (ties (lt R) x) xs) (sym fx ∙ h x ∙ none)) in
    let below : lt R x y ≡ false = sym (gt-lt R o y x) ∙ b in
    let above : lt R y x ≡ false = sym (gt-lt R o x y) ∙ a in
    let tied : ties (lt R) x y ≡ true = ap (λ (c : Bool). not c && not (lt R y x)) below ∙ ap (λ (c : Bool). not c) above in
    let more = filter (ties (lt R) x) ys in
    heads x y (filter (ties (lt R) x) xs) more (sym fx ∙ h x ∙ ap (λ (c : Bool). cond c (y ∷ more) more) tied)

tail-cond : {X : Type 0} (b : Bool) (x y : X) (us vs : List X) → cond b (x ∷ us) us ≡ cond b (y ∷ vs) vs → us ≡ vs
tail-cond true x y us vs h = cc
tail-cond false x y us vs h = h

tails : {X : Type 0} (p : X → Bool) (x y : X) (xs ys : List X) → x ≡ y → filter p (x ∷ xs) ≡ filter p (y ∷ ys) → filter p xs ≡ filter p ys
tails {X} p x y xs ys e h =
    let us = filter p xs in
    let vs = filter p ys in
    tail-cond (p x) x y us vs (h ∙ ap (λ (w : X). cond (p w) (y ∷ vs) vs) (sym e))

conses : {X : Type 0} (x y : X) (xs ys : List X) → x ≡ y → xs ≡ ys → x ∷ xs ≡ y ∷ ys
conses x y xs ys e f = cc

unique : {X : Type 0} (R : X → X → Ordering) → IsTotalOrder R → (xs ys : List X) → Ascends R xs → Ascends R ys
    → ((z : X) → filter (ties (lt R) z) xs ≡ filter (ties (lt R) z) ys) → xs ≡ ys
unique R o [] [] a b h = refl
unique R o [] (y ∷ ys) a b h = absurd (cons-nil y (filter (ties (lt R) y) ys) (sym (own-first R o y ys) ∙ sym (h y)))
unique R o (x ∷ xs) [] a b h = absurd (cons-nil x (filter (ties (lt R) x) xs) (sym (own-first R o x xs) ∙ h x))
unique R o (x ∷ xs) (y ∷ ys) a b h =
    let e = same-front R o x y xs ys a.0 b.0 h in
    conses x y xs ys e (unique R o xs ys a.1 b.1 (λ z. tails (ties (lt R) z) x y xs ys e (h z)))

-- ---- the sorted list ascends

up-more : {X : Type 0} (R : X → X → Ordering) → IsTotalOrder R → (x y : X) (ys : List X) → is_gt (R x y) ≡ false → UpTo R y ys → UpTo R x ys
up-more R o x y [] h up = tt
up-more R o x y (e ∷ ys) h up = (upto o x y e h up.0, up-more R o x y ys h up.1)

up-cond : {X : Type 0} (R : X → X → Ordering) (z x y : X) (ys rest : List X) (b : Bool) → is_gt (R z x) ≡ false → is_gt (R z y) ≡ false → UpTo R z ys → UpTo R z rest → UpTo R z (cond b (y ∷ rest) (x ∷ y ∷ ys))
up-cond R z x y ys rest true h i up more = (i, more)
up-cond R z x y ys rest false h i up more = (h, (i, up))

up-inserted : {X : Type 0} (R : X → X → Ordering) (z x : X) (ys : List X) → is_gt (R z x) ≡ false → UpTo R z ys → UpTo R z (inserted R x ys)
up-inserted R z x [] h up = (h, tt)
up-inserted R z x (y ∷ ys) h up = up-cond R z x y ys (inserted R x ys) (is_gt (R x y)) h up.0 up.1 (up-inserted R z x ys h up.1)

ascends-cond : {X : Type 0} (R : X → X → Ordering) → IsTotalOrder R → (x y : X) (ys : List X) (b : Bool) → is_gt (R x y) ≡ b → UpTo R y ys → Ascends R ys → Ascends R (inserted R x ys)
    → Ascends R (cond b (y ∷ inserted R x ys) (x ∷ y ∷ ys))
ascends-cond R o x y ys true is up a more = (up-inserted R y x ys (gt-lt R o y x ∙ not-gt (R x y) is) up, more)
ascends-cond R o x y ys false is up a more = ((is, up-more R o x y ys is up), (up, a))

ascends-inserted : {X : Type 0} (R : X → X → Ordering) → IsTotalOrder R → (x : X) (ys : List X) → Ascends R ys → Ascends R (inserted R x ys)
ascends-inserted R o x [] a = (tt, tt)
ascends-inserted R o x (y ∷ ys) a = ascends-cond R o x y ys (is_gt (R x y)) refl a.0 a.1 (ascends-inserted R o x ys a.1)

ascends-sorted : {X : Type 0} (R : X → X → Ordering) → IsTotalOrder R → (xs : List X) → Ascends R (sorted R xs)
ascends-sorted R o [] = tt
ascends-sorted R o (x ∷ xs) = ascends-inserted R o x (sorted R xs) (ascends-sorted R o xs)

-- ---- what is equal stays in its order

swapped : {X : Type 0} (a b : Bool) (x y : X) (us : List X) → (a ≡ true → b ≡ true → ⊥) →
    cond b (y ∷ cond a (x ∷ us) us) (cond a (x ∷ us) us) ≡ cond a (x ∷ cond b (y ∷ us) us) (cond b (y ∷ us) us)
swapped true true x y us h = absurd (h refl refl)
swapped true false x y us h = refl
swapped false true x y us h = refl
swapped false false x y us h = refl

not-greater : (r : Ordering) → r ≡ Equal → is_gt r ≡ true → ⊥
not-greater r e h = let f : false ≡ true = sym (ap is_gt e) ∙ h in cc

tied-cond : {X : Type 0} (R : X → X → Ordering) → IsTotalOrder R → (z x y : X) (ys : List X) (b : Bool) → is_gt (R x y) ≡ b
    → filter (ties (lt R) z) (inserted R x ys) ≡ filter (ties (lt R) z) (x ∷ ys)
    → filter (ties (lt R) z) (cond b (y ∷ inserted R x ys) (x ∷ y ∷ ys)) ≡ filter (ties (lt R) z) (x ∷ y ∷ ys)
tied-cond {X} R o z x y ys true is more =
    let p = ties (lt R) z in
    ap (λ (us : List X). cond (p y) (y ∷ us) us) more
    ∙ swapped (p x) (p y) x y (filter p ys)
    (λ i j. not-greater (R x y) (sym (o.congr z x y (ties-equal R o z x i)) ∙ ties-equal R o z y j) is)
tied-cond R o z x y ys false is more = refl

tied-inserted : {X : Type 0} (R : X → X → Ordering) → IsTotalOrder R → (z x : X) (ys : List X) → filter (ties (lt R) z) (inserted R x ys) ≡ filter (ties (lt R) z) (x ∷ ys)
tied-inserted R o z x [] = refl
tied-inserted R o z x (y ∷ ys) = tied-cond R o z x y ys (is_gt (R x y)) refl (tied-inserted R o z x ys)

tied-sorted : {X : Type 0} (R : X → X → Ordering) → IsTotalOrder R → (z : X) (xs : List X) → filter (ties (lt R) z) (sorted R xs) ≡ filter (ties (lt R) z) xs
tied-sorted R o z [] = refl
tied-sorted {X} R o z (x ∷ xs) =
    tied-inserted R o z x (sorted R xs) ∙ ap (λ (us : List X). cond (ties (lt R) z x) (x ∷ us) us) (tied-sorted R o z xs)

-- ---- what a stable sort leaves

pub sorted_is : {X : Type 0} (R : X → X → Ordering) → IsTotalOrder R → (xs ys : List X) → IsSortedBy (lt R) ys → IsStableBy (lt R) xs ys → ys ≡ sorted R xs
sorted_is R o xs ys up stable = unique R o ys (sorted R xs) (ascends-from R o ys up) (ascends-sorted R o xs) (λ z. stable z ∙ sym (tied-sorted R o z xs))
