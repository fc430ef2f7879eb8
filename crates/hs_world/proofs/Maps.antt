-- The finite map that a tree of entries stands for.
use Rattle.std.proofs.Common.{◌≡◌, ℕ, List, [], ◌∷◌, Bool, true, false, ◌&&◌, T, not, map, cond, subst, refl, sym, ap, ◌∙◌}
use Rattle.std.specs.Prelude.{Option, Some, None}
use Rattle.std.specs.declared.cmp.Ordering.{Ordering}
use Rattle.std.specs.declared.cmp.Ordering.TheVariants.{Less, Equal, Greater}
use Rattle.std.specs.Ordering.{nat_cmp, is_lt, is_eq, eq_by_cmp}
use Rattle.std.specs.Map.{lookup, keys_of}
use Rattle.std.specs.List.{AllByRecursion as ByRecursion}
use Rattle.std.specs.List.Sorted.{IsStrictlySortedBy}
use Rattle.std.specs.FinMap.Entries.{below_all, is_sorted, where_key, is_sorted-where_key, find-where_key}
use Rattle.std.specs.BTreeMap.{is_at}
use Rattle.std.specs.Cmp.{IsTotalOrder, alike_right, eq_by_cmp_equiv, nat_cmp_total}
use Rattle.std.specs.Cmp.Lexicographic.{slice_cmp, lists_total, nat_list_cmp_total}
use Rattle.std.specs.FinMap.{FinMap, empty, IsAntisymmetric, find, keys, entries, entries_sorted, get-entries, from_sorted, get-from_sorted, entries-from_sorted, get, insert, remove, from_entries, get-from_entries, get-insert, get-remove, same_map, nat_cmp-IsAntisymmetric, slice_cmp-IsAntisymmetric}
use Rattle.hs_world.specs.Names.{name_cmp, path_cmp}
pub use Rattle.hs_text.proofs.Lists.{names_total, names_same, paths_total, paths_same}

pub both : (a b : Bool) → T a → T b → T (a && b)
both true b p q = q
both false b p q = p

pub first_of : (a b : Bool) → T (a && b) → T a
first_of true b p = tt
first_of false b p = p

pub second_of : (a b : Bool) → T (a && b) → T b
second_of true b p = p
second_of false b p = absurd p

less : (r : Ordering) → T (is_lt r) → r ≡ Less
less Less p = refl
less Equal p = absurd p
less Greater p = absurd p

turned : {X : Type 0} (b : Bool) (x : Option X) → cond (not b) x None ≡ cond b None x
turned true x = refl
turned false x = refl

module _ {K X : Type 0} (R : K → K → Ordering) where
  -- what the entries have at a key
  abbrev pub entry_for : List (K × X) → K → Option X
  entry_for es q = lookup (is_at (R q)) es

  find_entry : (es : List (K × X)) (q : K) → find R q es ≡ entry_for es q
  find_entry [] q = refl
  find_entry (e ∷ es) q = ap (cond (is_at (R q) e.0) (Some e.1)) (find_entry es q)

  pub get_entry : IsTotalOrder R → (es : List (K × X)) (q : K) → get (from_entries {R = R} es) q ≡ entry_for es q
  get_entry o es q = get-from_entries o es q ∙ find_entry es q

  pub one_set : IsTotalOrder R → IsAntisymmetric R → (es fs : List (K × X)) (k : K) (v : X)
      → ((q : K) → entry_for fs q ≡ cond (is_at (R k) q) (Some v) (entry_for es q)) → from_entries {R = R} fs ≡ insert (from_entries es) k v
  one_set o same es fs k v h = same_map o same _ _ (λ q.
      get_entry o fs q ∙ h q ∙ ap (λ b. cond b (Some v) (entry_for es q)) ((eq_by_cmp_equiv o).symm k q)
      ∙ sym (get-insert o (from_entries es) k v q ∙ ap (cond (is_at (R q) k) (Some v)) (get_entry o es q)))

  pub one_removed : IsTotalOrder R → IsAntisymmetric R → (es fs : List (K × X)) (k : K)
      → ((q : K) → entry_for fs q ≡ cond (is_at (R k) q) None (entry_for es q)) → from_entries {R = R} fs ≡ remove (from_entries es) k
  one_removed o same es fs k h = same_map o same _ _ (λ q.
      get_entry o fs q ∙ h q ∙ ap (λ b. cond b None (entry_for es q)) ((eq_by_cmp_equiv o).symm k q)
      ∙ sym (get-remove o (from_entries es) k q ∙ ap (cond (is_at (R q) k) None) (get_entry o es q)))

  below_all_from : (x : K) (es : List (K × X)) → ByRecursion (λ y. R x y ≡ Less) (keys_of es) → T (below_all R x es)
  below_all_from x [] h = tt
  below_all_from x (e ∷ es) h = both (is_lt (R x e.0)) _ (subst (λ r. T (is_lt r)) (sym h.0) tt) (below_all_from x es h.1)

  pub sorted_from : (es : List (K × X)) → IsStrictlySortedBy R (keys_of es) → T (is_sorted R es)
  unfolding IsStrictlySortedBy
  sorted_from [] h = tt
  sorted_from (e ∷ es) h = both (below_all R e.0 es) _ (below_all_from e.0 es h.0) (sorted_from es h.1)

  pub entries_from : IsTotalOrder R → IsAntisymmetric R → (es : List (K × X)) → IsStrictlySortedBy R (keys_of es) → entries (from_entries {R = R} es) ≡ es
  entries_from o same es h =
      let s = sorted_from es h in
      let e : from_entries {R = R} es ≡ from_sorted es = same_map o same _ _ (λ q. get-from_entries o es q ∙ sym (get-from_sorted R es q s)) in
      ap entries e ∙ entries-from_sorted R es s

  -- the keys of the map that ordered entries make are theirs
  pub keys_from : IsTotalOrder R → IsAntisymmetric R → (es : List (K × X)) → IsStrictlySortedBy R (keys_of es) → keys (from_entries {R = R} es) ≡ keys_of es
  keys_from o same es h = ap (map (λ e. e.0)) (entries_from o same es h)

  pub entries-empty : IsTotalOrder R → IsAntisymmetric R → entries (empty {X = X} {R = R}) ≡ []
  unfolding IsStrictlySortedBy
  entries-empty o same = entries_from o same [] tt

  pub below_less : IsTotalOrder R → (x y : K) (es : List (K × X)) → R x y ≡ Less → T (below_all R y es) → T (below_all R x es)
  below_less o x y [] p h = tt
  below_less o x y (e ∷ es) p h = both _ _ (subst (λ r. T (is_lt r)) (sym (o.trans x y e.0 p (less _ (first_of _ _ h)))) tt) (below_less o x y es p (second_of _ _ h))

  pub below_tied : IsTotalOrder R → (x y : K) (es : List (K × X)) → R x y ≡ Equal → T (below_all R y es) → T (below_all R x es)
  below_tied o x y [] p h = tt
  below_tied o x y (e ∷ es) p h = both _ _ (subst (λ r. T (is_lt r)) (sym (o.congr x y e.0 p)) (first_of _ _ h)) (below_tied o x y es p (second_of _ _ h))

  pub find_none : (q : K) (es : List (K × X)) → T (below_all R q es) → find R q es ≡ None
  find_none q [] h = refl
  find_none q (e ∷ es) h = ap (λ r. cond (is_eq r) (Some e.1) (find R q es)) (less _ (first_of _ _ h)) ∙ find_none q es (second_of _ _ h)

  -- a removal keeps the other entries in order
  pub entries-remove : IsTotalOrder R → IsAntisymmetric R → (m : FinMap R X) (k : K) → entries (remove m k) ≡ where_key R (λ x. not (eq_by_cmp R k x)) (entries m)
  entries-remove o same m k =
      let kept : K → Bool = λ x. not (eq_by_cmp R k x) in
      let s = is_sorted-where_key R kept (entries m) (entries_sorted m) in
      let e : remove m k ≡ from_sorted (where_key R kept (entries m)) = same_map o same _ _ (λ q.
      get-remove o m k q
      ∙ ap (λ b. cond b None (get m q)) (sym ((eq_by_cmp_equiv o).symm k q))
      ∙ sym (turned (eq_by_cmp R k q) (get m q))
      ∙ ap (λ v. cond (kept q) v None) (get-entries m q)
      ∙ sym (find-where_key R kept q (λ x t. ap (λ r. not (is_eq r)) (sym (alike_right o q x k t))) (entries m))
      ∙ sym (get-from_sorted R _ q s)) in
      ap entries e ∙ entries-from_sorted R _ s
