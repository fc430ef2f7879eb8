-- The elements of bracket expressions, one after another.
use Rattle.std.proofs.Common.{◌≡◌, ℕ, zero, suc, ◌+◌, ◌≤◌, Bool, true, false, ◌||◌, List, [], ◌∷◌, ◌++◌, length, drop, Option, Some, None, refl, sym, ◌∙◌, ap, subst, inl, inr, append_assoc, append-nil, add_assoc, add-zero, add-one, arith}
use Rattle.std.specs.Prelude.{is_some, cond}
use Rattle.std.specs.List.{find}
use Rattle.std.proofs.lemmas.Bool.{and_parts, cases_Bool, cond-true, cond-false}
use Rattle.sh_pattern.specs.declared.item.ByteRange.{ByteRange}
use Rattle.sh_pattern.specs.declared.class.Class.{Class}
use Rattle.sh_pattern.specs.Classes.{begins, written, class_at, all_classes}
use Rattle.sh_pattern.specs.Items.{plain, element, ranges_of, more, behind, elements, elements_first, closes}

-- ---- what is found behind ranges and bytes

pub behind-behind : (rs es : List ByteRange) (m n : ℕ) (found : Option (List ByteRange × ℕ)) → behind rs m (behind es n found) ≡ behind (rs ++ es) (n + m) found
behind-behind rs es m n None = refl
behind-behind rs es m n (Some f) =
    let left : rs ++ (es ++ f.0) ≡ (rs ++ es) ++ f.0 = sym (append_assoc rs es f.0) in
    let right : (f.1 + n) + m ≡ f.1 + (n + m) = add_assoc f.1 n m in
    ap (λ (x : List ByteRange). Some (x, (f.1 + n) + m)) left ∙ ap (λ (x : ℕ). Some ((rs ++ es) ++ f.0, x)) right

pub behind-nothing : (found : Option (List ByteRange × ℕ)) → behind [] 0 found ≡ found
behind-nothing None = refl
behind-nothing (Some f) = ap (λ (x : ℕ). Some (f.0, x)) (add-zero f.1)

pub is_some-behind : (rs : List ByteRange) (n : ℕ) (found : Option (List ByteRange × ℕ)) → is_some (behind rs n found) ≡ is_some found
is_some-behind rs n None = refl
is_some-behind rs n (Some f) = refl

-- ---- bytes that belong to an element before

pub skipped : (k : ℕ) (text : List (ℕ × Bool)) → elements k text ≡ behind [] k (elements 0 (drop k text))
skipped zero text = sym (behind-nothing (elements 0 text))
skipped (suc k) [] = refl
skipped (suc k) (x ∷ r) =
    ap (λ (o : Option (List ByteRange × ℕ)). behind [] 1 o) (skipped k r)
    ∙ behind-behind [] [] 1 k (elements 0 (drop k r))
    ∙ ap (λ (n : ℕ). behind [] n (elements 0 (drop k r))) (add-one k)

-- an element that is taken, and those behind it
pub taken : (x : ℕ × Bool) (r : List (ℕ × Bool)) →
    behind (ranges_of (element x r)) 1 (elements (more (element x r)) r)
    ≡ behind (ranges_of (element x r)) (more (element x r) + 1) (elements 0 (drop (more (element x r)) r))
taken x r =
    let rest = elements 0 (drop (more (element x r)) r) in
    ap (λ (o : Option (List ByteRange × ℕ)). behind (ranges_of (element x r)) 1 o) (skipped (more (element x r)) r)
    ∙ behind-behind (ranges_of (element x r)) [] 1 (more (element x r)) rest
    ∙ ap (λ (rs : List ByteRange). behind rs (more (element x r) + 1) rest) (append-nil (ranges_of (element x r)))

is_some-cond : (b : Bool) (x : List ByteRange × ℕ) (found : Option (List ByteRange × ℕ)) → is_some (cond b (Some x) found) ≡ (b || is_some found)
is_some-cond true x found = refl
is_some-cond false x found = refl

pub closes-cons : (x : ℕ × Bool) (r : List (ℕ × Bool)) → closes (x ∷ r) ≡ (plain 93 x || closes (drop (more (element x r)) r))
closes-cons x r =
    is_some-cond (plain 93 x) ([], 1) (behind (ranges_of (element x r)) 1 (elements (more (element x r)) r))
    ∙ ap (λ (b : Bool). plain 93 x || b)
    (ap (λ (o : Option (List ByteRange × ℕ)). is_some o) (taken x r)
    ∙ is_some-behind (ranges_of (element x r)) (more (element x r) + 1) (elements 0 (drop (more (element x r)) r)))

none-from : {X : Type 0} (found : Option X) → is_some found ≡ false → found ≡ None
none-from None h = refl
none-from (Some f) h = absurd cc

-- where the closing bracket does not come behind the first element, nothing is found
pub first-closes : (x : ℕ × Bool) (r : List (ℕ × Bool)) → closes (drop (more (element x r)) r) ≡ false → elements_first (x ∷ r) ≡ None
first-closes x r h =
    taken x r ∙ ap (λ (o : Option (List ByteRange × ℕ)). behind (ranges_of (element x r)) (more (element x r) + 1) o) (none-from (elements 0 (drop (more (element x r)) r)) h)

-- ---- an element is no longer than what comes

begins-length : (bs : List ℕ) (text : List (ℕ × Bool)) → begins bs text ≡ true → length bs ≤ length text
begins-length [] text h = omega arith
begins-length (b ∷ bs) [] h = absurd cc
begins-length (b ∷ bs) (x ∷ r) h = let below = begins-length bs r ((and_parts (plain b x) (begins bs r) h).1) in omega arith

find-holds : {X : Type 0} (test : X → Bool) (xs : List X) (y : X) → find test xs ≡ Some y → test y ≡ true
find-holds test [] y h = absurd cc
find-holds test (x ∷ xs) y h = elim (cases_Bool (test x)) [
  | inl e ↦ (let found : Some x ≡ Some y = sym (cond-true (test x) (Some x) (find test xs) e) ∙ h in
      let same : x ≡ y = cc in subst (λ z. test z ≡ true) same e)
  | inr e ↦ find-holds test xs y (sym (cond-false (test x) (Some x) (find test xs) e) ∙ h)
]

pub class-within : (text : List (ℕ × Bool)) (c : Class) → class_at text ≡ Some c → length (written c) ≤ length text
unfolding class_at
class-within text c h = begins-length (written c) text (find-holds (λ (class : Class). begins (written class) text) all_classes c h)
