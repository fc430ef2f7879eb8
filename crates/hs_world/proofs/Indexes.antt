-- The names that are kept by folder stay those of the tree.
use Rattle.std.proofs.Common.{◌≡◌, ℕ, List, [], ◌∷◌, ◌++◌, Bool, true, false, not, T, cond, map, subst, refl, sym, ap, ◌∙◌, arith}
use Rattle.std.specs.Prelude.{Option, Some, None, is_some, length, nat_eq}
use Rattle.std.specs.declared.cmp.Ordering.{Ordering}
use Rattle.std.specs.declared.cmp.Ordering.TheVariants.{Less, Equal, Greater}
use Rattle.std.specs.Ordering.{is_eq, eq_by_cmp}
use Rattle.std.specs.Cmp.{tied_itself}
use Rattle.std.specs.FinMap.Entries.{is_sorted, find, put, where_key, by_order}
use Rattle.std.specs.FinMap.{FinMap, empty, get, insert, remove, keys, entries, entries_sorted, get-entries, get-empty, get-insert, get-remove, entries-insert, same_map}
use Rattle.std.specs.Map.{keys_of}
use Rattle.std.specs.List.{filter}
use Rattle.hs_world.specs.Names.{name_cmp, path_cmp, same_name, put_name, without_name, with_name, less_name}
use Rattle.hs_world.specs.Paths.{Path, parent}
use Rattle.hs_world.specs.Files.{Files, name_in, names_in, is_empty_list}
use Rattle.hs_world.specs.Folders.{NameMap, FolderMap, last_name, known, added_to, added, taken_from, taken, dropped_by, dropped, names_known, IsIndex}
use Rattle.hs_world.specs.declared.entry.Entry.{Entry}
use Rattle.hs_world.proofs.Maps.{names_total, names_same, paths_total, paths_same, entries-empty, entries-remove, below_less, find_none, second_of, first_of}
use Rattle.hs_world.proofs.Folders.{Name, names-insert, names-remove}
use Rattle.hs_world.proofs.Trees.{name_in-root, name_in-here, name_in-elsewhere}

-- ---- names in a set

keys_put : (n : Name) (v : Unit {0}) (es : List (Name × Unit {0})) → keys_of (put name_cmp n v es) ≡ put_name n (keys_of es)
keys_put n v [] = refl
keys_put n v (e ∷ es) =
    elim (name_cmp n e.0) as (λ r. keys_of (by_order r ((n, v) ∷ e ∷ es) ((e.0, v) ∷ es) (e ∷ put name_cmp n v es)) ≡ by_order r (n ∷ e.0 ∷ keys_of es) (e.0 ∷ keys_of es) (e.0 ∷ put_name n (keys_of es))) [
      | Less ↦ refl
      | Equal ↦ refl
      | Greater ↦ ap (λ l. e.0 ∷ l) (keys_put n v es)
    ]

pub keys-insert : (m : NameMap) (n : Name) → keys (insert m n tt) ≡ put_name n (keys m)
keys-insert m n = ap keys_of (entries-insert names_total m n tt) ∙ keys_put n tt (entries m)

keys_without : (n : Name) (es : List (Name × Unit {0})) → keys_of (where_key name_cmp (λ x. not (eq_by_cmp name_cmp n x)) es) ≡ without_name n (keys_of es)
keys_without n [] = refl
keys_without n (e ∷ es) =
    let left = where_key name_cmp (λ x. not (eq_by_cmp name_cmp n x)) es in
    elim (eq_by_cmp name_cmp n e.0) as (λ b. keys_of (cond (not b) (e ∷ left) left) ≡ cond (not b) (e.0 ∷ without_name n (keys_of es)) (without_name n (keys_of es))) [
      | true ↦ keys_without n es
      | false ↦ ap (λ l. e.0 ∷ l) (keys_without n es)
    ]

pub keys-remove : (m : NameMap) (n : Name) → keys (remove m n) ≡ without_name n (keys m)
keys-remove m n = ap keys_of (entries-remove name_cmp names_total names_same m n) ∙ keys_without n (entries m)

keys-known : (o : Option NameMap) → keys (known o) ≡ names_known o
keys-known None = ap keys_of (entries-empty name_cmp names_total names_same)
keys-known (Some m) = refl

-- ---- the last name of a path

pub record Split (k : Path) : Type 0 where
  pub name : Name
  pub last : last_name k ≡ Some name
  pub whole : k ≡ parent k ++ name ∷ []

split : (x : Name) (xs : Path) → Split (x ∷ xs)
split x [] = record { name = x; last = refl; whole = refl }
split x (y ∷ ys) = let r = split y ys in record { name = r.name; last = r.last; whole = ap (λ l. x ∷ l) r.whole }

in_it : (p k : Path) (s : Split k) → p ≡ parent k → name_in p k ≡ Some s.name
in_it p k s e = ap (name_in p) (s.whole ∙ ap (λ l. l ++ s.name ∷ []) (sym e)) ∙ name_in-here p s.name

not_in_it : (p k : Path) (s : Split k) → (parent k ≡ p → ⊥) → name_in p k ≡ None
not_in_it p k s h = ap (name_in p) s.whole ∙ name_in-elsewhere p (parent k) s.name h

apart : (p q : Path) → is_eq (path_cmp p q) ≡ false → q ≡ p → ⊥
apart p q h e = subst T (sym (ap is_eq (tied_itself paths_total p)) ∙ ap (λ x. is_eq (path_cmp p x)) (sym e) ∙ h) tt

-- ---- the index

pub index-empty : IsIndex empty empty
index-empty p = ap names_known (get-empty path_cmp p) ∙ sym (ap (λ es. names_in p (keys_of es)) (entries-empty path_cmp paths_total paths_same))

-- what a folder's names are, where those of one folder are changed
changed : (f : FolderMap) (front : Path) (m : NameMap) (p : Path) (names : List Name) → (p ≡ front → keys m ≡ names) → ((front ≡ p → ⊥) → names_known (get f p) ≡ names) → names_known (get (insert f front m) p) ≡ names
changed f front m p names here there =
    ap names_known (get-insert paths_total f front m p)
    ∙ elim (path_cmp p front) as (λ r. path_cmp p front ≡ r → names_known (cond (is_eq r) (Some m) (get f p)) ≡ names) [
      | Less ↦ λ q. there (apart p front (ap is_eq q))
      | Equal ↦ λ q. here (paths_same p front q)
      | Greater ↦ λ q. there (apart p front (ap is_eq q))
    ] refl

added_one : (f : FolderMap) (t : Files) (k : Path) (v : Entry) (s : Split k) → IsIndex f t → IsIndex (added_to (Some s.name) f (parent k)) (insert t k v)
added_one f t k v s h p = changed f (parent k) (insert (known (get f (parent k))) s.name tt) p (names_in p (keys (insert t k v)))
    (λ e. keys-insert (known (get f (parent k))) s.name
    ∙ ap (put_name s.name) (keys-known (get f (parent k)) ∙ h (parent k) ∙ ap (λ q. names_in q (keys t)) (sym e))
    ∙ sym (names-insert p t k v ∙ ap (λ o. with_name o (names_in p (keys t))) (in_it p k s e)))
    (λ n. h p ∙ sym (names-insert p t k v ∙ ap (λ o. with_name o (names_in p (keys t))) (not_in_it p k s n)))

pub index-added : (f : FolderMap) (t : Files) (k : Path) (v : Entry) → IsIndex f t → IsIndex (added f k) (insert t k v)
index-added f t [] v h = λ p. h p ∙ sym (names-insert p t [] v ∙ ap (λ o. with_name o (names_in p (keys t))) (name_in-root p))
index-added f t (x ∷ xs) v h =
    let s = split x xs in
    subst (λ o. IsIndex (added_to o f (parent (x ∷ xs))) (insert t (x ∷ xs) v)) (sym s.last) (added_one f t (x ∷ xs) v s h)

taken_one : (f : FolderMap) (t : Files) (k : Path) (s : Split k) (o : Option NameMap) → get f (parent k) ≡ o → IsIndex f t → IsIndex (taken_from (Some s.name) o f (parent k)) (remove t k)
taken_one f t k s None g h p =
    h p ∙ elim (path_cmp p (parent k)) as (λ r. path_cmp p (parent k) ≡ r → names_in p (keys t) ≡ names_in p (keys (remove t k))) [
      | Less ↦ λ q. sym (names-remove p t k ∙ ap (λ o. less_name o (names_in p (keys t))) (not_in_it p k s (apart p (parent k) (ap is_eq q))))
      | Equal ↦ λ q.
          let e = paths_same p (parent k) q in
          let none : names_in p (keys t) ≡ [] = sym (h p) ∙ ap (λ x. names_known (get f x)) e ∙ ap names_known g in
          none ∙ sym (names-remove p t k ∙ ap (λ o. less_name o (names_in p (keys t))) (in_it p k s e) ∙ ap (without_name s.name) none)
      | Greater ↦ λ q. sym (names-remove p t k ∙ ap (λ o. less_name o (names_in p (keys t))) (not_in_it p k s (apart p (parent k) (ap is_eq q))))
    ] refl
taken_one f t k s (Some m) g h p = changed f (parent k) (remove m s.name) p (names_in p (keys (remove t k)))
    (λ e. keys-remove m s.name
    ∙ ap (without_name s.name) (sym (ap names_known g) ∙ h (parent k) ∙ ap (λ q. names_in q (keys t)) (sym e))
    ∙ sym (names-remove p t k ∙ ap (λ o. less_name o (names_in p (keys t))) (in_it p k s e)))
    (λ n. h p ∙ sym (names-remove p t k ∙ ap (λ o. less_name o (names_in p (keys t))) (not_in_it p k s n)))

taken_root : (o : Option NameMap) (f : FolderMap) (p : Path) → taken_from None o f p ≡ f
taken_root None f p = refl
taken_root (Some m) f p = refl

pub index-taken : (f : FolderMap) (t : Files) (k : Path) → IsIndex f t → IsIndex (taken f k) (remove t k)
index-taken f t [] h = λ p. ap (λ g. names_known (get g p)) (taken_root (get f []) f []) ∙ h p ∙ sym (names-remove p t [] ∙ ap (λ o. less_name o (names_in p (keys t))) (name_in-root p))
index-taken f t (x ∷ xs) h =
    let s = split x xs in
    subst (λ o. IsIndex (taken_from o (get f (parent (x ∷ xs))) f (parent (x ∷ xs))) (remove t (x ∷ xs))) (sym s.last) (taken_one f t (x ∷ xs) s (get f (parent (x ∷ xs))) refl h)

nothing : (names : List Name) → is_empty_list names ≡ true → [] ≡ names
nothing [] h = refl
nothing (x ∷ xs) h = absurd (subst T (sym h) tt)

dropped_one : (f : FolderMap) (t : Files) (q : Path) (o : Option NameMap) → get f q ≡ o → IsIndex f t → IsIndex (dropped_by o f q) t
dropped_one f t q None g h = h
dropped_one f t q (Some m) g h =
    elim (is_empty_list (keys m)) as (λ b. is_empty_list (keys m) ≡ b → IsIndex (cond b (remove f q) f) t) [
      | false ↦ λ _. h
      | true ↦ λ e p. ap names_known (get-remove paths_total f q p)
          ∙ elim (path_cmp p q) as (λ r. path_cmp p q ≡ r → names_known (cond (is_eq r) None (get f p)) ≡ names_in p (keys t)) [
            | Less ↦ λ _. h p
            | Equal ↦ λ c. nothing (keys m) e ∙ ap names_known (sym g) ∙ ap (λ x. names_known (get f x)) (sym (paths_same p q c)) ∙ h p
            | Greater ↦ λ _. h p
          ] refl
    ] refl

pub index-dropped : (f : FolderMap) (t : Files) (q : Path) → IsIndex f t → IsIndex (dropped f q) t
index-dropped f t q h = dropped_one f t q (get f q) refl h

-- ---- what leaves the names as they are

put_same : (k : Path) (v old : Entry) (es : List (Path × Entry)) → T (is_sorted path_cmp es) → find path_cmp k es ≡ Some old → keys_of (put path_cmp k v es) ≡ keys_of es
put_same k v old [] s h = absurd (subst T (sym (ap is_some h)) tt)
put_same k v old (e ∷ es) s h =
    elim (path_cmp k e.0) as (λ r. path_cmp k e.0 ≡ r → cond (is_eq r) (Some e.1) (find path_cmp k es) ≡ Some old → keys_of (by_order r ((k, v) ∷ e ∷ es) ((e.0, v) ∷ es) (e ∷ put path_cmp k v es)) ≡ e.0 ∷ keys_of es) [
      | Less ↦ λ q g. absurd (subst T (sym (ap is_some (sym (find_none path_cmp k es (below_less path_cmp paths_total k e.0 es q (first_of _ _ s))) ∙ g))) tt)
      | Equal ↦ λ q g. refl
      | Greater ↦ λ q g. ap (λ l. e.0 ∷ l) (put_same k v old es (second_of _ _ s) g)
    ] refl h

pub keys-kept : (t : Files) (k : Path) (v old : Entry) → get t k ≡ Some old → keys (insert t k v) ≡ keys t
keys-kept t k v old h = ap keys_of (entries-insert paths_total t k v) ∙ put_same k v old (entries t) (entries_sorted t) (sym (get-entries t k) ∙ h)

-- An entry that came where none was, and went again, was never there.
pub gone_again : (t : Files) (k : Path) (v : Entry) → get t k ≡ None → remove (insert t k v) k ≡ t
gone_again t k v h = same_map paths_total paths_same _ _ (λ q.
    get-remove paths_total (insert t k v) k q
    ∙ elim (path_cmp q k) as (λ r. path_cmp q k ≡ r → cond (is_eq r) None (get (insert t k v) q) ≡ get t q) [
      | Less ↦ λ e. get-insert paths_total t k v q ∙ ap (λ r. cond (is_eq r) (Some v) (get t q)) e
      | Equal ↦ λ e. sym (ap (get t) (paths_same q k e) ∙ h)
      | Greater ↦ λ e. get-insert paths_total t k v q ∙ ap (λ r. cond (is_eq r) (Some v) (get t q)) e
    ] refl)

-- ---- what the code finds and makes

last_of : (front : Path) (n : Name) → last_name (front ++ n ∷ []) ≡ Some n
last_of [] n = refl
last_of (x ∷ []) n = refl
last_of (x ∷ y ∷ ys) n = last_of (y ∷ ys) n

pub added_told : (f : FolderMap) (p q front : Path) (n : Name) (known_names : NameMap) → p ≡ front ++ n ∷ [] → q ≡ parent p → known (get f q) ≡ known_names → insert f q (insert known_names n tt) ≡ added f p
added_told f p q front n names e g h =
    ap (λ m. insert f q (insert m n tt)) (sym h)
    ∙ ap (λ x. insert f x (insert (known (get f x)) n tt)) g
    ∙ sym (ap (λ o. added_to o f (parent p)) (ap last_name e ∙ last_of front n))

pub taken_told : (f : FolderMap) (p q front : Path) (n : Name) (o : Option NameMap) → p ≡ front ++ n ∷ [] → q ≡ parent p → get f q ≡ o → taken_from (Some n) o f q ≡ taken f p
taken_told f p q front n o e g h =
    ap (λ m. taken_from (Some n) m f q) (sym h)
    ∙ ap (λ x. taken_from (Some n) (get f x) f x) g
    ∙ sym (ap (λ m. taken_from m (get f (parent p)) f (parent p)) (ap last_name e ∙ last_of front n))

pub dropped_told : (f : FolderMap) (p : Path) (names : NameMap) → get f p ≡ Some names → is_empty_list (keys names) ≡ true → remove f p ≡ dropped f p
dropped_told f p names g h = sym (ap (λ o. dropped_by o f p) g ∙ ap (λ b. cond b (remove f p) f) h)

pub empty_told : (es : List (Name × Unit {0})) (n : ℕ) → n ≡ length es → nat_eq n 0 ≡ is_empty_list (keys_of es)
empty_told [] n e = ap (λ m. nat_eq m 0) e
empty_told (x ∷ xs) n e = grind arith
