-- Stacks over a base's.
use Rattle.std.proofs.Common.{◌≡◌, ℕ, ◌+◌, ◌-◌, ◌≤◌, T, List, [], ◌∷◌, ◌++◌, true, false, refl, sym, ap, ◌∙◌, subst, zero, suc, length, take, drop, reverse, leb, nat_eq, arith}
use Rattle.std.proofs.lemmas.List.{length-append, length-reverse, reverse-append, drop_all, drop-append-le}
use Rattle.std.specs.Prelude.{unwrap_or, Option, ltb}
use Rattle.hs_world.specs.Shells.{deep, without_top}
use Rattle.hs_world.specs.World.{is_pushed, top_or}
use Rattle.hs_overlay.specs.Stacks.{top_of, pushed_set, base_set}

pub rests : {A : Type 0} (a b : A) (xs ys : List A) → a ∷ xs ≡ b ∷ ys → xs ≡ ys
rests a b xs ys h = cc

pub top_is : {A : Type 0} (pushed : List A) (input : Option A) (base top : A) (below under : List A) → top ∷ below ≡ pushed ++ unwrap_or input base ∷ under → top ≡ unwrap_or (top_of pushed input) base
top_is [] input base top below under h = cc
top_is (t ∷ ts) input base top below under h = cc

-- the innermost replaced
pub set_is : {A : Type 0} (pushed : List A) (input : Option A) (x base top : A) (below under : List A) → top ∷ below ≡ pushed ++ unwrap_or input base ∷ under → x ∷ below ≡ pushed_set x pushed ++ unwrap_or (base_set x pushed input) base ∷ under
set_is [] input x base top below under h = ap (λ l. x ∷ l) (rests _ _ _ _ h)
set_is (t ∷ ts) input x base top below under h = ap (λ l. x ∷ l) (rests _ _ _ _ h)

pub depth_is : {A : Type 0} (pushed : List A) (base top : A) (below under : List A) → top ∷ below ≡ pushed ++ base ∷ under → length below ≡ length pushed + length under
depth_is pushed base top below under h = let e = ap length h ∙ length-append pushed (base ∷ under) in omega (arith, e)

pub whole : {A : Type 0} (x : A) (l : List A) → 1 ≤ length l → top_or x l ∷ without_top l ≡ l
whole x [] h = absurd (omega (arith, h))
whole x (y ∷ ys) h = refl

-- the innermost taken away
pub popped : {A : Type 0} (pushed : List A) (base top : A) (below under : List A) → is_pushed pushed ≡ true → top ∷ below ≡ pushed ++ base ∷ under → top_or top below ∷ without_top below ≡ drop 1 pushed ++ base ∷ under
popped [] base top below under v h = absurd (subst T (sym v) tt)
popped (t ∷ ts) base top below under v h =
    let d = depth_is (t ∷ ts) base top below under h in
    whole top below (let l : 1 ≤ length below = omega (arith, d) in l) ∙ rests _ _ _ _ h

-- texts of standard input taken away
pub dropped : (k : ℕ) (pushed : List (List ℕ)) (base top : List ℕ) (below under : List (List ℕ)) → k ≤ length pushed → top ∷ below ≡ pushed ++ base ∷ under → deep k top below ∷ drop k below ≡ drop k pushed ++ base ∷ under
dropped zero pushed base top below under h e = e
dropped (suc k) [] base top below under h e = absurd (omega arith)
dropped (suc k) (t ∷ ts) base top [] under h e = absurd (let l = depth_is (t ∷ ts) base top [] under e in omega (arith, l))
dropped (suc k) (t ∷ ts) base top (b ∷ bs) under h e = dropped k ts base b bs under (omega arith) (rests _ _ _ _ e)

pub eq_add : (a b n : ℕ) → nat_eq (a + n) (b + n) ≡ nat_eq a b
eq_add a b n = grind arith

pub le_add : (a b n : ℕ) → leb (a + n) (b + n) ≡ leb a b
le_add a b n = grind arith

pub lt_add : (a b n : ℕ) → ltb (a + n) (b + n) ≡ ltb a b
lt_add a b n = grind arith

pub same_zero : (d : ℕ) → nat_eq d 0 ≡ true → d ≡ 0
same_zero d e = grind arith

pub zero_suc : (n : ℕ) → nat_eq 0 (suc n) ≡ false
zero_suc n = grind arith

pub pushed_some : {A : Type 0} (xs : List A) → is_pushed xs ≡ true → 1 ≤ length xs
pushed_some [] h = absurd (subst T (sym h) tt)
pushed_some (x ∷ xs) h = omega arith

pub one_less : (m n k : ℕ) → m ≡ n + k → 1 ≤ n → m - 1 ≡ (n - 1) + k
one_less m n k e h = omega (arith, e, h)

-- What stands first in the code's list stands last on the pile.
kept_first : {A : Type 0} (n : ℕ) (xs : List A) → reverse (take n xs) ≡ drop (length xs - n) (reverse xs)
kept_first zero xs = sym (drop_all (length xs - 0) (reverse xs) (let l = length-reverse xs in omega (arith, l)))
kept_first {A} (suc n) [] = sym (drop_all (length {A = A} [] - suc n) [] (let l : length {A = A} [] ≤ length {A = A} [] - suc n = omega arith in l))
kept_first (suc n) (x ∷ xs) =
    let k : length (x ∷ xs) - suc n ≡ length xs - n = omega arith in
    reverse-append (x ∷ []) (take n xs)
    ∙ ap (λ l. l ++ x ∷ []) (kept_first n xs)
    ∙ sym ((λ i. drop (k i) (reverse-append (x ∷ []) xs i)) ∙ drop-append-le (length xs - n) (reverse xs) (x ∷ []) (let l = length-reverse xs in omega (arith, l)))

pub kept_pile : {A : Type 0} (n : ℕ) (xs : List A) → reverse (take n xs) ≡ drop (length (reverse xs) - n) (reverse xs)
kept_pile n xs = kept_first n xs ∙ ap (λ l. drop (l - n) (reverse xs)) (sym (length-reverse xs))
