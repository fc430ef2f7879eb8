-- The entries of a folder, and its names.
use Rattle.std.proofs.Common.{◌≡◌, Bool, true, false, not, ◌||◌, List, [], ◌∷◌, ◌++◌, inl, inr, T, refl, sym, ap, ◌∙◌, subst}
use Rattle.std.specs.Prelude.{Option, Some, None, is_some, if◌then◌else◌}
use Rattle.std.specs.FinMap.{contains_key-keys, get, keys}
use Rattle.std.specs.List.{list_any, AllByRecursion as ByRecursion}
use Rattle.std.specs.Ordering.{eq_by_cmp}
use Rattle.std.proofs.lemmas.Cmp.{eq_by_cmp_equiv}
use Rattle.hs_text.proofs.Lists.{equal, paths_same, paths_total}
use Rattle.hs_world.specs.Files.{Files, IsTree, entry_at, is_absent, is_dir, name_in, names_in, put_some}
use Rattle.hs_world.specs.Names.{path_cmp, same_name}
use Rattle.hs_world.specs.Paths.{Path, are_names, is_name, parent}
use Rattle.hs_world.specs.declared.entry.Entry.{Entry}
use Rattle.hs_world.proofs.Trees.{name_in-here}
use Rattle.sh_glob.proofs.Components.{Name, and_left, and_right, no, same_is}
use Rattle.sh_glob.proofs.Somewhere.{Somewhere}

-- ---- a name of a folder

none_some : (n : Name) → (None ≡ Some n) → ⊥
none_some n e = subst T (sym (ap is_some e)) tt

of_some : (a b : Name) → Some a ≡ Some b → a ≡ b
of_some a b e = ap (λ o. elim o [ Some x ↦ x | None ↦ a ]) e

name_is : (at k : Path) (n : Name) → name_in at k ≡ Some n → k ≡ at ++ n ∷ []
name_is [] [] n e = absurd (none_some n e)
name_is [] (x ∷ []) n e = ap (λ (y : Name). y ∷ []) (of_some x n e)
name_is [] (x ∷ y ∷ ys) n e = absurd (none_some n e)
name_is (q ∷ qs) [] n e = absurd (none_some n e)
name_is (q ∷ qs) (x ∷ xs) n e = by (name_is qs xs n) (same_name q x) refl e
  where
    by : (name_in qs xs ≡ Some n → xs ≡ qs ++ n ∷ []) → (s : Bool) → same_name q x ≡ s → (if s then name_in qs xs else None) ≡ Some n → x ∷ xs ≡ q ∷ qs ++ n ∷ []
    by more true s h = ap (λ (ys : Path). x ∷ ys) (more h) ∙ ap (λ (y : Name). y ∷ qs ++ n ∷ []) (sym (same_is q x s))
    by more false s h = absurd (none_some n h)

-- each of its components is a name
last_name : (at : Path) (n : Name) → are_names (at ++ n ∷ []) ≡ true → is_name n ≡ true
last_name [] n h = and_left (is_name n) true h
last_name (x ∷ xs) n h = last_name xs n (and_right (is_name x) (are_names (xs ++ n ∷ [])) h)

module _ (P : Name → Type 0) (at : Path) where
  put_further : (o : Option Name) (names : List Name) → Somewhere P names → Somewhere P (put_some o names)
  put_further None names h = h
  put_further (Some n) names h = inr h

  -- the names of a folder are right, where those of all paths are
  pub named : (ks : List Path) → ByRecursion (λ p. are_names p ≡ true) ks → Somewhere P (names_in at ks) → Somewhere (λ n. (is_name n ≡ true) × P n) (names_in at ks)
  named [] a h = h
  named (k ∷ ks) a h = by (named ks a.1) (name_in at k) refl h
    where
      by : (Somewhere P (names_in at ks) → Somewhere (λ n. (is_name n ≡ true) × P n) (names_in at ks)) → (o : Option Name) → name_in at k ≡ o → Somewhere P (put_some o (names_in at ks))
          → Somewhere (λ n. (is_name n ≡ true) × P n) (put_some o (names_in at ks))
      by more None e r = more r
      by more (Some n) e (inl p) = inl (last_name at n (ap are_names (sym (name_is at k n e)) ∙ a.0), p)
      by more (Some n) e (inr r) = inr (more r)

-- ---- an entry, and its name

entry_below : (t : Files) (at : Path) (n : Name) → entry_at t (at ++ n ∷ []) ≡ get t (at ++ n ∷ [])
entry_below t [] n = refl
entry_below t (x ∷ xs) n = refl

is_absent_is : (o : Option Entry) → is_absent o ≡ not (is_some o)
is_absent_is None = refl
is_absent_is (Some e) = refl

not_not : (b : Bool) → not (not b) ≡ b
not_not true = refl
not_not false = refl

has_path : (t : Files) (at : Path) (n : Name) → is_absent (entry_at t (at ++ n ∷ [])) ≡ not (list_any (eq_by_cmp path_cmp (at ++ n ∷ [])) (keys t))
has_path t at n = ap is_absent (entry_below t at n) ∙ is_absent_is (get t (at ++ n ∷ [])) ∙ ap not (contains_key-keys t (at ++ n ∷ []))

name_among : (at : Path) (n : Name) (ks : List Path) → list_any (eq_by_cmp path_cmp (at ++ n ∷ [])) ks ≡ true → Somewhere (λ m. m ≡ n) (names_in at ks)
name_among at n [] h = absurd (no (sym h))
name_among at n (k ∷ ks) h = by (name_among at n ks) (eq_by_cmp path_cmp (at ++ n ∷ []) k) refl h
  where
    by : (list_any (eq_by_cmp path_cmp (at ++ n ∷ [])) ks ≡ true → Somewhere (λ m. m ≡ n) (names_in at ks)) → (s : Bool) → eq_by_cmp path_cmp (at ++ n ∷ []) k ≡ s
        → (s || list_any (eq_by_cmp path_cmp (at ++ n ∷ [])) ks) ≡ true → Somewhere (λ m. m ≡ n) (put_some (name_in at k) (names_in at ks))
    by more true s t =
        let is : at ++ n ∷ [] ≡ k = paths_same (at ++ n ∷ []) k (equal _ (subst T (sym s) tt)) in
        let name : name_in at k ≡ Some n = ap (name_in at) (sym is) ∙ name_in-here at n in
        subst (λ (o : Option Name). Somewhere (λ m. m ≡ n) (put_some o (names_in at ks))) (sym name) (inl refl)
    by more false s t = put_further (λ m. m ≡ n) at (name_in at k) (names_in at ks) (more t)

among_names : (at : Path) (n : Name) (ks : List Path) → Somewhere (λ m. m ≡ n) (names_in at ks) → list_any (eq_by_cmp path_cmp (at ++ n ∷ [])) ks ≡ true
among_names at n [] h = absurd h
among_names at n (k ∷ ks) h = by (among_names at n ks) (name_in at k) refl h
  where
    either : (a b : Bool) → b ≡ true → (a || b) ≡ true
    either true b e = refl
    either false b e = e

    by : (Somewhere (λ m. m ≡ n) (names_in at ks) → list_any (eq_by_cmp path_cmp (at ++ n ∷ [])) ks ≡ true) → (o : Option Name) → name_in at k ≡ o → Somewhere (λ m. m ≡ n) (put_some o (names_in at ks))
        → (eq_by_cmp path_cmp (at ++ n ∷ []) k || list_any (eq_by_cmp path_cmp (at ++ n ∷ [])) ks) ≡ true
    by more None e r = either (eq_by_cmp path_cmp (at ++ n ∷ []) k) _ (more r)
    by more (Some m) e (inl p) =
        let is : k ≡ at ++ n ∷ [] = name_is at k m e ∙ ap (λ (y : Name). at ++ y ∷ []) p in
        ap (λ (s : Bool). s || list_any (eq_by_cmp path_cmp (at ++ n ∷ [])) ks)
        (ap (λ (q : Path). eq_by_cmp path_cmp (at ++ n ∷ []) q) is ∙ (eq_by_cmp_equiv paths_total).refl (at ++ n ∷ []))
    by more (Some m) e (inr r) = either (eq_by_cmp path_cmp (at ++ n ∷ []) k) _ (more r)

pub entry_named : (t : Files) (at : Path) (n : Name) → is_absent (entry_at t (at ++ n ∷ [])) ≡ false → Somewhere (λ m. m ≡ n) (names_in at (keys t))
entry_named t at n h = name_among at n (keys t) (sym (not_not _) ∙ ap not (sym (has_path t at n) ∙ h))

pub name_has_entry : (t : Files) (at : Path) (n : Name) → Somewhere (λ m. m ≡ n) (names_in at (keys t)) → is_absent (entry_at t (at ++ n ∷ [])) ≡ false
name_has_entry t at n h = has_path t at n ∙ ap not (among_names at n (keys t) h)

-- ---- folders

-- an entry is in a folder
pub in_folder : (t : Files) (at : Path) (n : Name) → IsTree t → is_absent (entry_at t (at ++ n ∷ [])) ≡ false → is_dir (entry_at t at) ≡ true
in_folder t at n tree h = by (is_dir (entry_at t at)) refl
  where
    by : (b : Bool) → is_dir (entry_at t at) ≡ b → b ≡ true
    by true e = refl
    by false e = absurd (subst (Somewhere (λ m. m ≡ n)) (tree at e) (entry_named t at n h))

pub folder_there : (o : Option Entry) → is_dir o ≡ true → is_absent o ≡ false
folder_there None h = absurd (no (sym h))
folder_there (Some e) h = refl

last_of : (x : Name) (xs : Path) → (n : Name) × (x ∷ xs ≡ parent (x ∷ xs) ++ n ∷ [])
last_of x [] = (x, refl)
last_of x (y ∷ ys) = let more = last_of y ys in (more.0, ap (λ (l : Path). x ∷ l) more.1)

-- and so is each folder
pub parent_there : (t : Files) (at : Path) → IsTree t → is_dir (entry_at t at) ≡ true → is_absent (entry_at t (parent at)) ≡ false
parent_there t [] tree h = refl
parent_there t (x ∷ xs) tree h =
    let last = last_of x xs in
    folder_there (entry_at t (parent (x ∷ xs)))
    (in_folder t (parent (x ∷ xs)) last.0 tree (ap (λ (p : Path). is_absent (entry_at t p)) (sym last.1) ∙ folder_there (entry_at t (x ∷ xs)) h))
