-- What stands in a list that was put in order.
use Rattle.std.proofs.Common.{◌≡◌, ℕ, Bool, true, false, ◌||◌, List, [], ◌∷◌, refl, sym, ap, ◌∙◌, subst, fold, is_eq, true≢false}
use Rattle.std.specs.declared.cmp.Ordering.{Ordering}
use Rattle.std.specs.declared.cmp.Ordering.TheVariants.{Less, Equal, Greater}
use Rattle.std.specs.Ordering.{match_ordering, ordering_reverse}
use Rattle.std.specs.BTreeSet.{insert_key}
use Rattle.std.specs.List.{list_any, AllByRecursion as ByRecursion}
use Rattle.std.specs.List.Sorted.{IsStrictlySortedBy}
use Rattle.std.proofs.lemmas.Cmp.{eq_by_cmp_equiv}
use Rattle.hs_world.specs.Names.{name_cmp, same_name}
use Rattle.hs_text.proofs.Lists.{names_same, names_total}
use Rattle.sh_glob.specs.Texts.{in_order}

abbrev Name : Type 0
Name = List ℕ

or_again : (a r : Bool) → (a || r) ≡ (a || (a || r))
or_again true r = refl
or_again false r = refl

or_swap : (a b r : Bool) → (a || (b || r)) ≡ (b || (a || r))
or_swap true true r = refl
or_swap true false r = refl
or_swap false true r = refl
or_swap false false r = refl

or_turn : (a b r : Bool) → (a || (b || r)) ≡ ((b || a) || r)
or_turn true true r = refl
or_turn true false r = refl
or_turn false true r = refl
or_turn false false r = refl

or_none : (a : Bool) → (a || false) ≡ a
or_none true = refl
or_none false = refl

any_put : (x k : Name) (ks : List Name) → list_any (same_name x) (insert_key name_cmp ks k) ≡ (same_name x k || list_any (same_name x) ks)
any_put x k [] = refl
any_put x k (y ∷ ys) = by (name_cmp k y) refl (any_put x k ys)
  where
    by : (r : Ordering) → name_cmp k y ≡ r → list_any (same_name x) (insert_key name_cmp ys k) ≡ (same_name x k || list_any (same_name x) ys)
        → list_any (same_name x) (match_ordering r (k ∷ y ∷ ys) (y ∷ ys) (y ∷ insert_key name_cmp ys k)) ≡ (same_name x k || (same_name x y || list_any (same_name x) ys))
    by Less e h = refl
    by Equal e h = or_again (same_name x y) (list_any (same_name x) ys) ∙ ap (λ (z : Name). same_name x z || (same_name x y || list_any (same_name x) ys)) (sym (names_same k y e))
    by Greater e h = ap (λ (b : Bool). same_name x y || b) h ∙ or_swap (same_name x y) (same_name x k) (list_any (same_name x) ys)

any_fold : (x : Name) (ks xs : List Name) → list_any (same_name x) (fold (insert_key name_cmp) ks xs) ≡ (list_any (same_name x) xs || list_any (same_name x) ks)
any_fold x ks [] = refl
any_fold x ks (y ∷ ys) =
    any_fold x (insert_key name_cmp ks y) ys
    ∙ ap (λ (b : Bool). list_any (same_name x) ys || b) (any_put x y ks)
    ∙ or_turn (list_any (same_name x) ys) (same_name x y) (list_any (same_name x) ks)

-- the same texts
pub any_in_order : (x : Name) (xs : List Name) → list_any (same_name x) (in_order xs) ≡ list_any (same_name x) xs
any_in_order x xs = any_fold x [] xs ∙ or_none (list_any (same_name x) xs)

-- ---- each once

all_put : (P : Name → Type 0) (k : Name) (ks : List Name) → P k → ByRecursion P ks → ByRecursion P (insert_key name_cmp ks k)
all_put P k [] p h = (p, tt)
all_put P k (y ∷ ys) p h = by (name_cmp k y) (all_put P k ys p h.1)
  where
    by : (r : Ordering) → ByRecursion P (insert_key name_cmp ys k) → ByRecursion P (match_ordering r (k ∷ y ∷ ys) (y ∷ ys) (y ∷ insert_key name_cmp ys k))
    by Less more = (p, h)
    by Equal more = h
    by Greater more = (h.0, more)

below : (k y : Name) (ys : List Name) → name_cmp k y ≡ Less → ByRecursion (λ z. name_cmp y z ≡ Less) ys → ByRecursion (λ z. name_cmp k z ≡ Less) ys
below k y [] e h = tt
below k y (z ∷ zs) e h = (names_total.trans k y z e h.0, below k y zs e h.1)

sorted_put : (k : Name) (ks : List Name) → IsStrictlySortedBy name_cmp ks → IsStrictlySortedBy name_cmp (insert_key name_cmp ks k)
unfolding IsStrictlySortedBy
sorted_put k [] h = (tt, tt)
sorted_put k (y ∷ ys) h =
    let more = sorted_put k ys h.1 in
    elim (name_cmp k y) as (λ r. name_cmp k y ≡ r → IsStrictlySortedBy name_cmp (match_ordering r (k ∷ y ∷ ys) (y ∷ ys) (y ∷ insert_key name_cmp ys k))) [
      | Less ↦ λ e. ((e, below k y ys e h.0), h)
      | Equal ↦ λ e. h
      | Greater ↦ λ e. (all_put (λ z. name_cmp y z ≡ Less) k ys (names_total.antisymm y k ∙ ap ordering_reverse e) h.0, more)
    ] refl

sorted_fold : (ks xs : List Name) → IsStrictlySortedBy name_cmp ks → IsStrictlySortedBy name_cmp (fold (insert_key name_cmp) ks xs)
sorted_fold ks [] h = h
sorted_fold ks (y ∷ ys) h = sorted_fold (insert_key name_cmp ks y) ys (sorted_put y ks h)

pub is_in_order : (xs : List Name) → IsStrictlySortedBy name_cmp (in_order xs)
unfolding IsStrictlySortedBy
is_in_order xs = sorted_fold [] xs tt

-- ---- one list

below_not : (k : Name) (ys : List Name) → ByRecursion (λ z. name_cmp k z ≡ Less) ys → list_any (same_name k) ys ≡ false
below_not k [] h = refl
below_not k (z ∷ zs) h = ap (λ (r : Ordering). is_eq r || list_any (same_name k) zs) h.0 ∙ below_not k zs h.1

at_first : (x : Name) (xs : List Name) → list_any (same_name x) (x ∷ xs) ≡ true
at_first x xs = ap (λ (b : Bool). b || list_any (same_name x) xs) ((eq_by_cmp_equiv names_total).refl x)

-- an element that comes before all of the other list
before_all : (x y : Name) (xs ys : List Name) → name_cmp x y ≡ Less → ByRecursion (λ z. name_cmp y z ≡ Less) ys → list_any (same_name x) (x ∷ xs) ≡ list_any (same_name x) (y ∷ ys) → ⊥
before_all x y xs ys e h s = true≢false (sym (at_first x xs) ∙ s ∙ below_not x (y ∷ ys) (e, below x y ys e h))

later : (x : Name) (xs ys : List Name) → ByRecursion (λ z. name_cmp x z ≡ Less) xs → ByRecursion (λ z. name_cmp x z ≡ Less) ys
    → ((z : Name) → list_any (same_name z) (x ∷ xs) ≡ list_any (same_name z) (x ∷ ys)) → (z : Name) → list_any (same_name z) xs ≡ list_any (same_name z) ys
later x xs ys h k same z = by (name_cmp z x) refl (same z)
  where
    by : (r : Ordering) → name_cmp z x ≡ r → (is_eq r || list_any (same_name z) xs) ≡ (is_eq r || list_any (same_name z) ys) → list_any (same_name z) xs ≡ list_any (same_name z) ys
    by Less e s = s
    by Equal e s =
        let is : z ≡ x = names_same z x e in
        ap (λ (q : Name). list_any (same_name q) xs) is ∙ below_not x xs h ∙ sym (below_not x ys k) ∙ ap (λ (q : Name). list_any (same_name q) ys) (sym is)
    by Greater e s = s

-- Two lists in order that have the same texts are the same.
pub one_list : (xs ys : List Name) → IsStrictlySortedBy name_cmp xs → IsStrictlySortedBy name_cmp ys → ((z : Name) → list_any (same_name z) xs ≡ list_any (same_name z) ys) → xs ≡ ys
unfolding IsStrictlySortedBy
one_list [] [] h k same = refl
one_list [] (y ∷ ys) h k same = absurd (true≢false (sym (at_first y ys) ∙ sym (same y)))
one_list (x ∷ xs) [] h k same = absurd (true≢false (sym (at_first x xs) ∙ same x))
one_list (x ∷ xs) (y ∷ ys) h k same =
    elim (name_cmp x y) as (λ r. name_cmp x y ≡ r → x ∷ xs ≡ y ∷ ys) [
      | Less ↦ λ e. absurd (before_all x y xs ys e k.0 (same x))
      | Equal ↦ λ e.
          let is : y ≡ x = sym (names_same x y e) in
          let below_x : ByRecursion (λ z. name_cmp x z ≡ Less) ys = subst (λ (q : Name). ByRecursion (λ z. name_cmp q z ≡ Less) ys) is k.0 in
          let rest = one_list xs ys h.1 k.1 (later x xs ys h.0 below_x (λ z. same z ∙ ap (λ (q : Name). list_any (same_name z) (q ∷ ys)) is)) in
          ap (λ (l : List Name). x ∷ l) rest ∙ ap (λ (q : Name). q ∷ ys) (sym is)
      | Greater ↦ λ e. absurd (before_all y x ys xs (names_total.antisymm y x ∙ ap ordering_reverse e) h.0 (sym (same y)))
    ] refl
