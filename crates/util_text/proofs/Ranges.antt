-- Ranges, as they are read.
use Rattle.std.proofs.Common.{◌≡◌, ℕ, zero, suc, ◌+◌, ◌-◌, ◌^◌, ◌<◌, ◌≤◌, min, Bool, true, false, cond, List, [], ◌∷◌, ◌++◌, length, take, drop, get_or, map, Option, None, Some, refl, sym, ◌∙◌, ap, eqb, leb, ltb, arith, append-nil, append_assoc}
use Rattle.std.specs.Prelude.{◌&&◌, nat_lt, nat_le, option_map, Result, Ok, Err, IfOk}
use Rattle.std.specs.Result.{result_ok}
use Rattle.std.proofs.lemmas.Bool.{le-leb, lt-leb, ltb-true, ltb-false}
use Rattle.memchr.specs.Find.{Nowhere, NoneBefore, Passes, is_byte}
use Rattle.util_text.specs.declared.fault.TextErr.{TextErr}
use Rattle.util_text.specs.declared.places.Span.{Span}
use Rattle.util_text.specs.Count.{number, StandsFor}
use Rattle.util_text.specs.Parts.{parts, parts_behind}
use Rattle.util_text.specs.Places.{Range, before_dash, behind_dash, bounded, unbounded, range_with, range_of}
use Rattle.util_text.specs.Sequences.{with_first, all_of}
use Rattle.util_text.specs.Spans.{span_of}

-- ---- the dash

false_from_not : (b : Bool) → (b ≡ true → ⊥) → b ≡ false
false_from_not true clear = absurd (clear refl)
false_from_not false clear = refl

before-at : (item : List ℕ) (k : ℕ) → k < length item → ((j : ℕ) → j < k → eqb (get_or item j 0) 45 ≡ true → ⊥) → eqb (get_or item k 0) 45 ≡ true →
    (before_dash item ≡ take k item) × (behind_dash item ≡ Some (drop (suc k) item))
before-at [] k h clear here = absurd (omega arith)
before-at (b ∷ bs) zero h clear here =
    (ap (λ (c : Bool). cond c [] (b ∷ before_dash bs)) here, ap (λ (c : Bool). cond c (Some bs) (behind_dash bs)) here)
before-at (b ∷ bs) (suc k) h clear here =
    let other = false_from_not (eqb b 45) (clear 0 (omega arith)) in
    let more = before-at bs k (omega arith) (λ j l. clear (suc j) (omega arith)) here in (
      ap (λ (c : Bool). cond c [] (b ∷ before_dash bs)) other ∙ ap (λ (u : List ℕ). b ∷ u) more.0,
      ap (λ (c : Bool). cond c (Some bs) (behind_dash bs)) other ∙ more.1,
    )

before-whole : (item : List ℕ) → ((j : ℕ) → j < length item → eqb (get_or item j 0) 45 ≡ true → ⊥) → (before_dash item ≡ item) × (behind_dash item ≡ None)
before-whole [] clear = (refl, refl)
before-whole (b ∷ bs) clear =
    let other = false_from_not (eqb b 45) (clear 0 (omega arith)) in
    let more = before-whole bs (λ j l. clear (suc j) (omega arith)) in (
      ap (λ (c : Bool). cond c [] (b ∷ before_dash bs)) other ∙ ap (λ (u : List ℕ). b ∷ u) more.0,
      ap (λ (c : Bool). cond c (Some bs) (behind_dash bs)) other ∙ more.1,
    )

pub dash_found : (item low high : List ℕ) (k : ℕ) → NoneBefore (Passes (is_byte 45) item) 0 (length item) k → Passes (is_byte 45) item k →
    low ≡ take k item → high ≡ drop (k + 1) item → range_with low (Some high) ≡ range_of item
dash_found item low high k first here is also =
    let next : suc k ≡ k + 1 = omega arith in
    let both = before-at item k first.high (λ j l. first.before j (omega arith) l) here in
    ap (λ (u : List ℕ). range_with u (Some high)) (is ∙ sym both.0)
    ∙ ap (λ (o : Option (List ℕ)). range_with (before_dash item) o)
    (ap (λ (u : List ℕ). Some u) also ∙ sym (both.1 ∙ ap (λ (n : ℕ). Some (drop n item)) next))

pub dash_missing : (item : List ℕ) → Nowhere (Passes (is_byte 45) item) 0 (length item) → bounded (number item) (number item) ≡ range_of item
dash_missing item clear =
    let both = before-whole item (λ j l. clear j (omega arith) l) in
    sym (ap (λ (u : List ℕ). range_with u (behind_dash item)) both.0 ∙ ap (λ (o : Option (List ℕ)). range_with item o) both.1)

-- ---- its ends

-- what a count that was read stands for
pub read-count : (word : List ℕ) (r : Result ℕ TextErr) (x : ℕ) → Some x ≡ result_ok r → IfOk r (λ count. (n : ℕ) × (number word ≡ Some n) × StandsFor count n) →
    (n : ℕ) × (number word ≡ Some n) × StandsFor x n
read-count word (Ok y) x is read = let same : x ≡ y = cc in (read.0, read.1, same ∙ read.2)
read-count word (Err e) x is read = cc

pub bounded-zero : (o p : Option ℕ) (m first : ℕ) → o ≡ Some m → first ≡ min m (2 ^ 64 - 1) → first ≡ 0 → None ≡ option_map (λ r. span_of r) (bounded o p)
bounded-zero o p m first is stands zeroed =
    let zero : m ≡ 0 = omega arith in
    sym (ap (λ (q : Option ℕ). option_map (λ r. span_of r) (bounded q p)) (is ∙ ap (λ (k : ℕ). Some k) zero) ∙ at-zero p)
  where
    at-zero : (p : Option ℕ) → option_map (λ r. span_of r) (bounded (Some 0) p) ≡ None
    at-zero None = refl
    at-zero (Some n) = refl

pub bounded-falls : (o p : Option ℕ) (m n : ℕ) → o ≡ Some m → p ≡ Some n → true ≡ nat_lt n m → None ≡ option_map (λ r. span_of r) (bounded o p)
bounded-falls o p m n is also falls =
    let no : leb m n ≡ false = lt-leb m n (ltb-true n m (sym falls)) in
    sym (ap (λ (q : Option ℕ). option_map (λ r. span_of r) (bounded q p)) is
    ∙ ap (λ (q : Option ℕ). option_map (λ r. span_of r) (bounded (Some m) q)) also
    ∙ ap (λ (c : Bool). option_map (λ (r : Range). span_of r) (cond (leb 1 m && c) (Some (record { low = m; high = Some n })) None)) no
    ∙ and-false (leb 1 m) m n)
  where
    and-false : (c : Bool) (m n : ℕ) → option_map (λ (r : Range). span_of r) (cond (c && false) (Some (record { low = m; high = Some n })) None) ≡ None
    and-false true m n = refl
    and-false false m n = refl

pub bounded-is : (o p : Option ℕ) (m n first last : ℕ) → o ≡ Some m → p ≡ Some n → first ≡ min m (2 ^ 64 - 1) → last ≡ min n (2 ^ 64 - 1) →
    (first ≡ 0 → ⊥) → false ≡ nat_lt n m → Some (record { low = first; high = last }) ≡ option_map (λ r. span_of r) (bounded o p)
bounded-is o p m n first last is also stands ends some rises =
    let low : leb 1 m ≡ true = le-leb 1 m (omega arith) in
    let up : leb m n ≡ true = le-leb m n (ltb-false n m (sym rises)) in
    let made : ℕ → ℕ → Option Span = λ l h. Some (record { low = l; high = h }) in
    ap (λ (l : ℕ). made l last) stands ∙ ap (λ (h : ℕ). made (min m (2 ^ 64 - 1)) h) ends
    ∙ sym (ap (λ (q : Option ℕ). option_map (λ r. span_of r) (bounded q p)) is
    ∙ ap (λ (q : Option ℕ). option_map (λ r. span_of r) (bounded (Some m) q)) also
    ∙ ap (λ (c : Bool). option_map (λ (r : Range). span_of r) (cond (c && leb m n) (Some (record { low = m; high = Some n })) None)) low
    ∙ ap (λ (c : Bool). option_map (λ (r : Range). span_of r) (cond c (Some (record { low = m; high = Some n })) None)) up)

pub bounded-low : (o p : Option ℕ) → o ≡ None → None ≡ option_map (λ r. span_of r) (bounded o p)
bounded-low o p is = sym (ap (λ (q : Option ℕ). option_map (λ r. span_of r) (bounded q p)) is)

pub bounded-high : (o p : Option ℕ) → p ≡ None → None ≡ option_map (λ r. span_of r) (bounded o p)
bounded-high o p is = sym (ap (λ (q : Option ℕ). option_map (λ r. span_of r) (bounded o q)) is ∙ at-none o)
  where
    at-none : (o : Option ℕ) → option_map (λ r. span_of r) (bounded o None) ≡ None
    at-none None = refl
    at-none (Some m) = refl

pub unbounded-zero : (o : Option ℕ) (m first : ℕ) → o ≡ Some m → first ≡ min m (2 ^ 64 - 1) → first ≡ 0 → None ≡ option_map (λ r. span_of r) (unbounded o)
unbounded-zero o m first is stands zeroed =
    let zero : m ≡ 0 = omega arith in
    sym (ap (λ (q : Option ℕ). option_map (λ r. span_of r) (unbounded q)) (is ∙ ap (λ (k : ℕ). Some k) zero))

pub unbounded-is : (o : Option ℕ) (m first : ℕ) → o ≡ Some m → first ≡ min m (2 ^ 64 - 1) → (first ≡ 0 → ⊥) →
    Some (record { low = first; high = 18446744073709551615 }) ≡ option_map (λ r. span_of r) (unbounded o)
unbounded-is o m first is stands some =
    let low : leb 1 m ≡ true = le-leb 1 m (omega arith) in
    let made : ℕ → Option Span = λ l. Some (record { low = l; high = 18446744073709551615 }) in
    ap (λ (l : ℕ). made l) stands
    ∙ sym (ap (λ (q : Option ℕ). option_map (λ r. span_of r) (unbounded q)) is
    ∙ ap (λ (c : Bool). option_map (λ (r : Range). span_of r) (cond c (Some (record { low = m; high = None })) None)) low)

pub unbounded-none : (o : Option ℕ) → o ≡ None → None ≡ option_map (λ r. span_of r) (unbounded o)
unbounded-none o is = sym (ap (λ (q : Option ℕ). option_map (λ r. span_of r) (unbounded q)) is)

-- ---- the list, item by item

-- items that come before
abbrev pub behind_all : {X : Type 0} → List X → Option (List X) → Option (List X)
behind_all xs None = None
behind_all xs (Some ys) = Some (xs ++ ys)

pub behind_all-push : {X : Type 0} (xs : List X) (x : X) (o : Option (List X)) → behind_all xs (with_first (Some x) o) ≡ behind_all (xs ++ x ∷ []) o
behind_all-push xs x None = refl
behind_all-push {X} xs x (Some ys) = ap (λ (u : List X). Some u) (sym (append_assoc xs (x ∷ []) ys))

-- what is left of a list
abbrev pub items_left : (ℕ → Bool) → Option (List ℕ) → Option (List Span)
items_left test rest = all_of (λ item. option_map (λ r. span_of r) (range_of item)) (parts_behind test rest)

pub all_of-spans : (items : List (List ℕ)) → all_of (λ item. option_map (λ r. span_of r) (range_of item)) items ≡ option_map (λ rs. map (λ r. span_of r) rs) (all_of (λ item. range_of item) items)
all_of-spans [] = refl
all_of-spans (item ∷ items) =
    ap (λ (o : Option (List Span)). with_first (option_map (λ r. span_of r) (range_of item)) o) (all_of-spans items)
    ∙ mapped (range_of item) (all_of (λ item. range_of item) items)
  where
    mapped : (o : Option Range) (p : Option (List Range)) →
        with_first (option_map (λ r. span_of r) o) (option_map (λ rs. map (λ r. span_of r) rs) p) ≡ option_map (λ rs. map (λ r. span_of r) rs) (with_first o p)
    mapped None p = refl
    mapped (Some r) None = refl
    mapped (Some r) (Some rs) = refl

-- how much is left of a list
abbrev pub left_len : Option (List ℕ) → ℕ
left_len None = 0
left_len (Some bytes) = suc (length bytes)

-- the ranges of which spans were made
pub ranges-of_spans : (o : Option (List Range)) (spans : List Span) → option_map (λ rs. map (λ r. span_of r) rs) o ≡ Some spans →
    (ranges : List Range) × (o ≡ Some ranges) × (map (λ r. span_of r) ranges ≡ spans)
ranges-of_spans None spans is = cc
ranges-of_spans (Some rs) spans is = (rs, refl, cc)

-- an item that writes no range
pub spans-none : (test : ℕ → Bool) (word list item : List ℕ) (rest behind : Option (List ℕ)) (spans : List Span) →
    items_left test (Some word) ≡ behind_all spans (items_left test rest) → rest ≡ Some list → parts test list ≡ item ∷ parts_behind test behind →
    None ≡ option_map (λ r. span_of r) (range_of item) → items_left test (Some word) ≡ None
spans-none test word list item rest behind spans sofar is split none =
    sofar
    ∙ ap (λ (o : Option (List ℕ)). behind_all spans (items_left test o)) is
    ∙ ap (λ (ps : List (List ℕ)). behind_all spans (all_of (λ item. option_map (λ r. span_of r) (range_of item)) ps)) split
    ∙ ap (λ (o : Option Span). behind_all spans (with_first o (items_left test behind))) (sym none)

pub ranges-none : (o : Option (List Range)) → option_map (λ rs. map (λ r. span_of r) rs) o ≡ None → o ≡ None
ranges-none None is = refl
ranges-none (Some rs) is = cc

pub spans-done : (test : ℕ → Bool) (rest : Option (List ℕ)) (spans : List Span) → rest ≡ None → behind_all spans (items_left test rest) ≡ Some spans
spans-done test rest spans is =
    ap (λ (o : Option (List ℕ)). behind_all spans (items_left test o)) is ∙ ap (λ (u : List Span). Some u) (append-nil spans)
