-- Sets of bytes, element by element.
use Rattle.std.proofs.Common.{◌≡◌, ℕ, zero, suc, ◌+◌, ◌-◌, ◌<◌, ◌≤◌, Bool, true, false, not, cond, List, [], ◌∷◌, ◌++◌, length, take, drop, refl, sym, ◌∙◌, ap, subst, inl, inr, arith, append_assoc, append-nil, length-take}
use Rattle.std.specs.Prelude.{Option, None, Some, nat_eq}
use Rattle.std.specs.Cmp.Lexicographic.{as_long}
use Rattle.std.specs.List.{find, range_with_len, starts_with}
use Rattle.std.proofs.lemmas.Bool.{cases_Bool, cond-true, cond-false}
use Rattle.util_lines.specs.ByteClass.{all_classes, class_at, written}
use Rattle.util_lines.specs.ByteSet.{before, bytes_from, element_at, element_bytes, one_where, set_from}
use Rattle.util_lines.specs.declared.byte_class.Class.{Class}
use Rattle.util_lines.specs.declared.byte_set.Element.{Element}

-- ---- classes

find-holds : {X : Type 0} (test : X → Bool) (xs : List X) (y : X) → find test xs ≡ Some y → test y ≡ true
find-holds test [] y h = absurd cc
find-holds test (x ∷ xs) y h = elim (cases_Bool (test x)) [
  | inl e ↦ (let found : Some x ≡ Some y = sym (cond-true (test x) (Some x) (find test xs) e) ∙ h in
      let same : x ≡ y = cc in subst (λ z. test z ≡ true) same e)
  | inr e ↦ find-holds test xs y (sym (cond-false (test x) (Some x) (find test xs) e) ∙ h)
]

begun : (text wanted : List ℕ) → starts_with nat_eq text wanted ≡ true → length wanted ≤ length text
begun text wanted h =
    let same : length wanted ≡ length (take (length wanted) text) = as_long nat_eq wanted (take (length wanted) text) h in
    omega (arith, same, length-take (length wanted) text)

-- what a class is written with stands in the text
pub class_within : (text : List ℕ) (c : Class) → class_at text ≡ Some c → length (written c) ≤ length text
unfolding class_at
class_within text c h = begun text (written c) (find-holds (λ (class : Class). starts_with nat_eq text (written class)) all_classes c h)

-- ---- bytes, ascending

from_next : (test : ℕ → Bool) (i n : ℕ) → i < n → bytes_from test i (n - i) ≡ one_where (test i) i ++ bytes_from test (i + 1) (n - (i + 1))
unfolding bytes_from
from_next test i n h = let e : n - i ≡ suc (n - (i + 1)) = omega arith in ap (bytes_from test i) e

from_none : (test : ℕ → Bool) (i n : ℕ) → n ≤ i → bytes_from test i (n - i) ≡ []
unfolding bytes_from
from_none test i n h = let e : n - i ≡ 0 = omega arith in ap (bytes_from test i) e

-- one byte more, which passes or not
pub byte_tested : (test : ℕ → Bool) (i n : ℕ) (out new whole : List ℕ) (wanted : Bool) → i < n → wanted ≡ test i → out ++ bytes_from test i (n - i) ≡ whole → new ≡ out ++ one_where wanted i
    → new ++ bytes_from test (i + 1) (n - (i + 1)) ≡ whole
byte_tested test i n out new whole wanted h t w e =
    let more = bytes_from test (i + 1) (n - (i + 1)) in
    ap (λ (u : List ℕ). u ++ more) e
    ∙ ap (λ (b : Bool). (out ++ one_where b i) ++ more) t
    ∙ append_assoc out (one_where (test i) i) more
    ∙ ap (λ (u : List ℕ). out ++ u) (sym (from_next test i n h))
    ∙ w

pub all_tested : (test : ℕ → Bool) (i n : ℕ) (out whole : List ℕ) → n ≤ i → out ++ bytes_from test i (n - i) ≡ whole → out ≡ whole
all_tested test i n out whole h w = sym (ap (λ (u : List ℕ). out ++ u) (from_none test i n h) ∙ append-nil out) ∙ w

range_step : (i n : ℕ) → i < n → range_with_len i (n - i) ≡ i ∷ range_with_len (i + 1) (n - (i + 1))
range_step i n h = let e : n - i ≡ suc (n - (i + 1)) = omega arith in ap (range_with_len i) e

range_done : (i n : ℕ) → n ≤ i → range_with_len i (n - i) ≡ []
range_done i n h = let e : n - i ≡ 0 = omega arith in ap (range_with_len i) e

-- one byte of a range more
pub ranging : (i n : ℕ) (out whole : List ℕ) → i < n → out ++ range_with_len i (n - i) ≡ whole → (out ++ i ∷ []) ++ range_with_len (i + 1) (n - (i + 1)) ≡ whole
ranging i n out whole h w =
    append_assoc out (i ∷ []) (range_with_len (i + 1) (n - (i + 1)))
    ∙ ap (λ (u : List ℕ). out ++ u) (sym (range_step i n h))
    ∙ w

pub ranged : (i n : ℕ) (out whole : List ℕ) → n ≤ i → out ++ range_with_len i (n - i) ≡ whole → out ≡ whole
ranged i n out whole h w = sym (ap (λ (u : List ℕ). out ++ u) (range_done i n h) ∙ append-nil out) ∙ w

-- ---- sets

-- bytes that belong to an element before
skipped : (k : ℕ) (text : List ℕ) → set_from k text ≡ set_from 0 (drop k text)
skipped zero text = refl
skipped (suc k) [] = refl
skipped (suc k) (b ∷ bs) = skipped k bs

before_both : (out bytes : List ℕ) (rest : Option (List ℕ)) → before (Some out) (before (Some bytes) rest) ≡ before (Some (out ++ bytes)) rest
before_both out bytes None = refl
before_both out bytes (Some more) = ap (λ (u : List ℕ). Some u) (sym (append_assoc out bytes more))

read : (rest after next : List ℕ) (b : ℕ) (element : Element) (more : ℕ) (bytes : Option (List ℕ)) → rest ≡ b ∷ after → (element, more) ≡ element_at b after → element_bytes element ≡ bytes
    → next ≡ drop more after → set_from 0 rest ≡ before bytes (set_from 0 next)
read rest after next b element more bytes s e k d =
    ap (set_from 0) s
    ∙ ap (λ (p : Element × ℕ). before (element_bytes p.0) (set_from p.1 after)) (sym e)
    ∙ ap (λ (o : Option (List ℕ)). before o (set_from more after)) k
    ∙ ap (before bytes) (skipped more after ∙ ap (set_from 0) (sym d))

-- one element more
pub element_read : (whole : Option (List ℕ)) (out new bytes rest after next : List ℕ) (b : ℕ) (element : Element) (more : ℕ) → whole ≡ before (Some out) (set_from 0 rest)
    → rest ≡ b ∷ after → (element, more) ≡ element_at b after → element_bytes element ≡ Some bytes → new ≡ out ++ bytes → next ≡ drop more after
    → whole ≡ before (Some new) (set_from 0 next)
element_read whole out new bytes rest after next b element more w s e k n d =
    w
    ∙ ap (before (Some out)) (read rest after next b element more (Some bytes) s e k d)
    ∙ before_both out bytes (set_from 0 next)
    ∙ ap (λ (u : List ℕ). before (Some u) (set_from 0 next)) (sym n)

-- an element that is refused
pub element_refused : (whole : Option (List ℕ)) (out rest after : List ℕ) (b : ℕ) (element : Element) (more : ℕ) → whole ≡ before (Some out) (set_from 0 rest) → rest ≡ b ∷ after
    → (element, more) ≡ element_at b after → element_bytes element ≡ None → whole ≡ None
element_refused whole out rest after b element more w s e k =
    w ∙ ap (before (Some out)) (read rest after (drop more after) b element more None s e k refl)

-- all elements
pub set_read : (whole : Option (List ℕ)) (out rest : List ℕ) → whole ≡ before (Some out) (set_from 0 rest) → length rest ≡ 0 → whole ≡ Some out
set_read whole out [] w h = w ∙ ap (λ (u : List ℕ). Some u) (append-nil out)
set_read whole out (b ∷ bs) w h = absurd (omega arith)
