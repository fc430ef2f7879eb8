-- The digits of a number, one after another.
use Rattle.std.proofs.Common.{◌≡◌, ℕ, ◌+◌, ◌*◌, ◌<◌, ◌≤◌, Bool, true, false, List, [], ◌∷◌, length, drop, get_or, Option, Some, None, refl, sym, ap, ◌∙◌, arith, add-one, drop-cons, length-drop}
use Rattle.std.proofs.Math.Nat.{mul-le-mul_left}
use Rattle.std.proofs.lemmas.Bool.{le-leb, leb-true, leb-false, lt-leb}
use Rattle.std.specs.Prelude.{nat_le, nat_lt, if◌then◌else◌}
use Rattle.sh_arith.specs.Number.{worth, digits, within, one_digit}

grows : (base limit sofar w : ℕ) → 0 < base → limit < sofar → limit < sofar * base + w
grows base limit sofar w h l = let far : sofar * 1 ≤ sofar * base = mul-le-mul_left sofar h in omega arith

-- a number beyond the limit stays beyond it
pub beyond : (base limit sofar : ℕ) (bs : List ℕ) → 0 < base → limit < sofar → within limit (digits base sofar bs) ≡ None
beyond base limit sofar [] h l = ap (λ (b : Bool). if b then Some sofar else None) (lt-leb sofar limit l)
beyond base limit sofar (b ∷ bs) h l = by (nat_lt (worth b) base) (beyond base limit (sofar * base + worth b) bs h (grows base limit sofar (worth b) h l))
  where
    by : (t : Bool) → within limit (digits base (sofar * base + worth b) bs) ≡ None → within limit (if t then digits base (sofar * base + worth b) bs else None) ≡ None
    by true e = e
    by false e = refl

pub digit-none : (base limit sofar b : ℕ) (bs : List ℕ) → 0 < base → one_digit base limit sofar b ≡ None → within limit (digits base sofar (b ∷ bs)) ≡ None
digit-none base limit sofar b bs h e = by (nat_lt (worth b) base) e
  where
    n : ℕ
    n = sofar * base + worth b

    over : (t : Bool) → nat_le n limit ≡ t → (if t then Some n else None) ≡ None → within limit (digits base n bs) ≡ None
    over true e f = absurd cc
    over false e f = beyond base limit n bs h (leb-false n limit e)

    by : (t : Bool) → (if t then within limit (Some n) else None) ≡ None → within limit (if t then digits base n bs else None) ≡ None
    by true e = over (nat_le n limit) refl e
    by false e = refl

pub digit-some : (base limit sofar b m : ℕ) (bs : List ℕ) → one_digit base limit sofar b ≡ Some m → (within limit (digits base sofar (b ∷ bs)) ≡ within limit (digits base m bs)) × (m ≤ limit)
digit-some base limit sofar b m bs e = by (nat_lt (worth b) base) e
  where
    n : ℕ
    n = sofar * base + worth b

    under : (t : Bool) → nat_le n limit ≡ t → (if t then Some n else None) ≡ Some m → (within limit (digits base n bs) ≡ within limit (digits base m bs)) × (m ≤ limit)
    under true e f = let same : n ≡ m = cc in (ap (λ (k : ℕ). within limit (digits base k bs)) same, let le = leb-true n limit e in omega arith)
    under false e f = absurd cc

    by : (t : Bool) → (if t then within limit (Some n) else None) ≡ Some m → (within limit (if t then digits base n bs else None) ≡ within limit (digits base m bs)) × (m ≤ limit)
    by true e = under (nat_le n limit) refl e
    by false e = absurd cc

pub in-limit : (limit n : ℕ) → n ≤ limit → within limit (Some n) ≡ Some n
in-limit limit n h = ap (λ (b : Bool). if b then Some n else None) (le-leb n limit h)

drop-all : (bytes : List ℕ) (i : ℕ) → length bytes ≤ i → drop i bytes ≡ []
drop-all bytes i h = empty (drop i bytes) (omega (arith, length-drop i bytes))
  where
    empty : (xs : List ℕ) → length xs ≤ 0 → xs ≡ []
    empty [] k = refl
    empty (x ∷ xs) k = absurd (omega arith)

at-cons : (bytes : List ℕ) (i : ℕ) → i < length bytes → drop i bytes ≡ get_or bytes i 0 ∷ drop (i + 1) bytes
at-cons bytes i h = rw (add-one, drop-cons bytes i 0)

pub none-at : (base limit sofar i : ℕ) (bytes : List ℕ) (all r : Option ℕ) → 0 < base → i < length bytes → within limit (digits base sofar (drop i bytes)) ≡ all →
    r ≡ one_digit base limit sofar (get_or bytes i 0) → r ≡ None → None ≡ all
none-at base limit sofar i bytes all r h l e f n =
    sym (digit-none base limit sofar (get_or bytes i 0) (drop (i + 1) bytes) h (sym f ∙ n)) ∙ ap (λ (xs : List ℕ). within limit (digits base sofar xs)) (sym (at-cons bytes i l)) ∙ e

pub some-at : (base limit sofar i m : ℕ) (bytes : List ℕ) (all r : Option ℕ) → i < length bytes → within limit (digits base sofar (drop i bytes)) ≡ all →
    r ≡ one_digit base limit sofar (get_or bytes i 0) → r ≡ Some m → (m ≤ limit) × (within limit (digits base m (drop (i + 1) bytes)) ≡ all)
some-at base limit sofar i m bytes all r l e f n =
    let d = digit-some base limit sofar (get_or bytes i 0) m (drop (i + 1) bytes) (sym f ∙ n) in
    (d.1, sym d.0 ∙ ap (λ (xs : List ℕ). within limit (digits base sofar xs)) (sym (at-cons bytes i l)) ∙ e)

pub end-at : (base limit sofar i : ℕ) (bytes : List ℕ) (all : Option ℕ) → sofar ≤ limit → length bytes ≤ i → within limit (digits base sofar (drop i bytes)) ≡ all → Some sofar ≡ all
end-at base limit sofar i bytes all h l e = sym (in-limit limit sofar h) ∙ ap (λ (xs : List ℕ). within limit (digits base sofar xs)) (sym (drop-all bytes i l)) ∙ e
