-- The names of a folder, as entries come and go.
use Rattle.std.proofs.Common.{◌≡◌, ℕ, List, [], ◌∷◌, Bool, true, false, not, T, cond, subst, refl, sym, ap, ◌∙◌}
use Rattle.std.specs.Prelude.{Option, Some, None, is_some}
use Rattle.std.specs.declared.cmp.Ordering.{Ordering}
use Rattle.std.specs.declared.cmp.Ordering.TheVariants.{Less, Equal, Greater}
use Rattle.std.specs.Ordering.{is_lt, is_eq, eq_by_cmp, ordering_then}
use Rattle.std.specs.FinMap.Entries.{below_all, is_sorted, put, where_key, by_order}
use Rattle.std.specs.FinMap.{entries, entries_sorted, insert, remove, keys, entries-insert}
use Rattle.std.specs.Map.{keys_of}
use Rattle.std.specs.List.{filter}
use Rattle.std.specs.Cmp.{tied_itself}
use Rattle.hs_world.specs.Names.{name_cmp, path_cmp, same_name, put_name, without_name, with_name, less_name}
use Rattle.hs_world.specs.Paths.{Path}
use Rattle.hs_world.specs.Files.{Files, name_in, names_in, put_some}
use Rattle.hs_world.specs.declared.entry.Entry.{Entry}
use Rattle.hs_world.proofs.Maps.{names_total, names_same, paths_total, paths_same, entries-remove, below_less, both, first_of, second_of}

abbrev pub Name : Type 0
Name = List ℕ

is_less : (r : Ordering) → T (is_lt r) → r ≡ Less
is_less Less p = refl
is_less Equal p = absurd p
is_less Greater p = absurd p

no_name : (n : Name) → (None ≡ Some n) → ⊥
no_name n e = subst T (sym (ap is_some e)) tt

then_equal : (r : Ordering) → ordering_then r Equal ≡ r
then_equal Less = refl
then_equal Equal = refl
then_equal Greater = refl

some_name : (a b : Name) → Some a ≡ Some b → a ≡ b
some_name a b e = ap (λ o. elim o [ Some x ↦ x | None ↦ a ]) e

-- Entries of one folder are ordered as their names are.
pub child_cmp : (p k e : Path) (n m : Name) → name_in p k ≡ Some n → name_in p e ≡ Some m → path_cmp k e ≡ name_cmp n m
child_cmp [] [] e n m h g = absurd (no_name n h)
child_cmp [] (k ∷ []) [] n m h g = absurd (no_name m g)
child_cmp [] (k ∷ []) (e ∷ []) n m h g = then_equal (name_cmp k e) ∙ (λ i. name_cmp (some_name k n h i) (some_name e m g i))
child_cmp [] (k ∷ []) (e ∷ f ∷ es) n m h g = absurd (no_name m g)
child_cmp [] (k ∷ l ∷ ks) e n m h g = absurd (no_name n h)
child_cmp (q ∷ qs) [] e n m h g = absurd (no_name n h)
child_cmp (q ∷ qs) (k ∷ ks) [] n m h g = absurd (no_name m g)
child_cmp (q ∷ qs) (k ∷ ks) (e ∷ es) n m h g =
    elim (name_cmp q k) as (λ r. name_cmp q k ≡ r → cond (is_eq r) (name_in qs ks) None ≡ Some n → path_cmp (k ∷ ks) (e ∷ es) ≡ name_cmp n m) [
      | Less ↦ λ _ a. absurd (no_name n a)
      | Greater ↦ λ _ a. absurd (no_name n a)
      | Equal ↦ λ t a. elim (name_cmp q e) as (λ r. name_cmp q e ≡ r → cond (is_eq r) (name_in qs es) None ≡ Some m → path_cmp (k ∷ ks) (e ∷ es) ≡ name_cmp n m) [
        | Less ↦ λ _ b. absurd (no_name m b)
        | Greater ↦ λ _ b. absurd (no_name m b)
        | Equal ↦ λ u b.
            let tied : name_cmp k e ≡ Equal = ap (λ x. name_cmp x e) (sym (names_same q k t)) ∙ u in
            ap (λ r. ordering_then r (path_cmp ks es)) tied ∙ child_cmp qs ks es n m a b
      ] refl g
    ] refl h

-- ---- an entry comes

put_front : (p k : Path) (es : List (Path × Entry)) (n : Name) → name_in p k ≡ Some n → T (below_all path_cmp k es) → put_name n (names_in p (keys_of es)) ≡ n ∷ names_in p (keys_of es)
put_front p k [] n h b = refl
put_front p k (e ∷ es) n h b =
    elim (name_in p e.0) as (λ o. name_in p e.0 ≡ o → put_name n (put_some o (names_in p (keys_of es))) ≡ n ∷ put_some o (names_in p (keys_of es))) [
      | None ↦ λ _. put_front p k es n h (second_of (is_lt (path_cmp k e.0)) _ b)
      | Some m ↦ λ g. ap (λ r. by_order r (n ∷ m ∷ names_in p (keys_of es)) (m ∷ names_in p (keys_of es)) (m ∷ put_name n (names_in p (keys_of es))))
          (sym (child_cmp p k e.0 n m h g) ∙ is_less _ (first_of (is_lt (path_cmp k e.0)) _ b))
    ] refl

put_first : (p k : Path) (es : List (Path × Entry)) → T (below_all path_cmp k es) → put_some (name_in p k) (names_in p (keys_of es)) ≡ with_name (name_in p k) (names_in p (keys_of es))
put_first p k es b =
    elim (name_in p k) as (λ o. name_in p k ≡ o → put_some o (names_in p (keys_of es)) ≡ with_name o (names_in p (keys_of es))) [
      | None ↦ λ _. refl
      | Some n ↦ λ h. sym (put_front p k es n h b)
    ] refl

put_again : (o : Option Name) (names : List Name) → put_some o names ≡ with_name o (put_some o names)
put_again None names = refl
put_again (Some n) names = sym (ap (λ r. by_order r (n ∷ n ∷ names) (n ∷ names) (n ∷ put_name n names)) (tied_itself names_total n))

put_later : (p k e : Path) (names : List Name) → path_cmp k e ≡ Greater → put_some (name_in p e) (with_name (name_in p k) names) ≡ with_name (name_in p k) (put_some (name_in p e) names)
put_later p k e names q =
    elim (name_in p k) as (λ o. name_in p k ≡ o → put_some (name_in p e) (with_name o names) ≡ with_name o (put_some (name_in p e) names)) [
      | None ↦ λ _. refl
      | Some n ↦ λ h. elim (name_in p e) as (λ o. name_in p e ≡ o → put_some o (put_name n names) ≡ put_name n (put_some o names)) [
        | None ↦ λ _. refl
        | Some m ↦ λ g. sym (ap (λ r. by_order r (n ∷ m ∷ names) (m ∷ names) (m ∷ put_name n names)) (sym (child_cmp p k e n m h g) ∙ q))
      ] refl
    ] refl

names_put : (p k : Path) (v : Entry) (es : List (Path × Entry)) → T (is_sorted path_cmp es) → names_in p (keys_of (put path_cmp k v es)) ≡ with_name (name_in p k) (names_in p (keys_of es))
names_put p k v [] h = put_first p k [] tt
names_put p k v (e ∷ es) h =
    elim (path_cmp k e.0) as (λ r. path_cmp k e.0 ≡ r → names_in p (keys_of (by_order r ((k, v) ∷ e ∷ es) ((e.0, v) ∷ es) (e ∷ put path_cmp k v es))) ≡ with_name (name_in p k) (put_some (name_in p e.0) (names_in p (keys_of es)))) [
      | Less ↦ λ q. put_first p k (e ∷ es) (both (is_lt (path_cmp k e.0)) _ (subst (λ r. T (is_lt r)) (sym q) tt) (below_less path_cmp paths_total k e.0 es q (first_of _ _ h)))
      | Equal ↦ λ q. put_again (name_in p e.0) (names_in p (keys_of es)) ∙ ap (λ x. with_name (name_in p x) (put_some (name_in p e.0) (names_in p (keys_of es)))) (sym (paths_same k e.0 q))
      | Greater ↦ λ q. ap (put_some (name_in p e.0)) (names_put p k v es (second_of (below_all path_cmp e.0 es) _ h)) ∙ put_later p k e.0 (names_in p (keys_of es)) q
    ] refl

pub names-insert : (p : Path) (t : Files) (k : Path) (v : Entry) → names_in p (keys (insert t k v)) ≡ with_name (name_in p k) (names_in p (keys t))
names-insert p t k v = ap (λ es. names_in p (keys_of es)) (entries-insert paths_total t k v) ∙ names_put p k v (entries t) (entries_sorted t)

-- ---- an entry goes

gone_first : (o : Option Name) (names : List Name) → less_name o names ≡ less_name o (put_some o names)
gone_first None names = refl
gone_first (Some n) names = sym (ap (λ r. cond (not (is_eq r)) (n ∷ without_name n names) (without_name n names)) (tied_itself names_total n))

gone_later : (p k e : Path) (names : List Name) → is_eq (path_cmp k e) ≡ false → put_some (name_in p e) (less_name (name_in p k) names) ≡ less_name (name_in p k) (put_some (name_in p e) names)
gone_later p k e names q =
    elim (name_in p k) as (λ o. name_in p k ≡ o → put_some (name_in p e) (less_name o names) ≡ less_name o (put_some (name_in p e) names)) [
      | None ↦ λ _. refl
      | Some n ↦ λ h. elim (name_in p e) as (λ o. name_in p e ≡ o → put_some o (without_name n names) ≡ without_name n (put_some o names)) [
        | None ↦ λ _. refl
        | Some m ↦ λ g. sym (ap (λ b. cond (not b) (m ∷ without_name n names) (without_name n names)) (ap is_eq (sym (child_cmp p k e n m h g)) ∙ q))
      ] refl
    ] refl

names_less : (p k : Path) (es : List (Path × Entry)) → names_in p (keys_of (where_key path_cmp (λ x. not (eq_by_cmp path_cmp k x)) es)) ≡ less_name (name_in p k) (names_in p (keys_of es))
names_less p k [] = elim (name_in p k) as (λ o. [] ≡ less_name o []) [ None ↦ refl | Some n ↦ refl ]
names_less p k (e ∷ es) =
    let left = where_key path_cmp (λ x. not (eq_by_cmp path_cmp k x)) es in
    elim (path_cmp k e.0) as (λ r. path_cmp k e.0 ≡ r → names_in p (keys_of (cond (not (is_eq r)) (e ∷ left) left)) ≡ less_name (name_in p k) (put_some (name_in p e.0) (names_in p (keys_of es)))) [
      | Less ↦ λ q. ap (put_some (name_in p e.0)) (names_less p k es) ∙ gone_later p k e.0 (names_in p (keys_of es)) (ap is_eq q)
      | Equal ↦ λ q. names_less p k es ∙ gone_first (name_in p k) (names_in p (keys_of es)) ∙ ap (λ x. less_name (name_in p k) (put_some (name_in p x) (names_in p (keys_of es)))) (paths_same k e.0 q)
      | Greater ↦ λ q. ap (put_some (name_in p e.0)) (names_less p k es) ∙ gone_later p k e.0 (names_in p (keys_of es)) (ap is_eq q)
    ] refl

pub names-remove : (p : Path) (t : Files) (k : Path) → names_in p (keys (remove t k)) ≡ less_name (name_in p k) (names_in p (keys t))
names-remove p t k = ap (λ es. names_in p (keys_of es)) (entries-remove path_cmp paths_total paths_same t k) ∙ names_less p k (entries t)
