-- The names of a folder, as effects make them come and go.
use Rattle.std.proofs.Common.{◌≡◌, ℕ, List, [], ◌∷◌, ◌++◌, Bool, true, false, not, T, cond, map, subst, refl, sym, ap, ◌∙◌}
use Rattle.std.specs.Prelude.{Option, Some, None, is_some, unwrap_or, ◌||◌}
use Rattle.std.specs.declared.cmp.Ordering.{Ordering}
use Rattle.std.specs.declared.cmp.Ordering.TheVariants.{Less, Equal, Greater}
use Rattle.std.specs.Ordering.{is_lt, is_eq}
use Rattle.std.specs.Cmp.{tied_itself}
use Rattle.std.specs.FinMap.Entries.{below_all, is_sorted, find, by_order}
use Rattle.std.specs.FinMap.{empty, get, insert, remove, keys, entries, entries_sorted, get-entries, get-empty, get-insert, get-remove, from_sorted, get-from_sorted, entries-from_sorted, same_map}
use Rattle.std.specs.Map.{keys_of}
use Rattle.hs_world.specs.Folders.{NameMap, last_name}
use Rattle.hs_world.specs.Names.{name_cmp, path_cmp, same_name, put_name, without_name, with_name, less_name}
use Rattle.hs_world.specs.Paths.{Path, parent}
use Rattle.hs_world.specs.Files.{Files, name_in, names_in, put_some}
use Rattle.hs_world.specs.declared.entry.Entry.{Entry}
use Rattle.hs_world.proofs.Folders.{child_cmp, names-insert, names-remove}
use Rattle.hs_world.proofs.Indexes.{Split}
use Rattle.hs_world.proofs.Maps.{names_total, names_same, paths_total, paths_same, find_none, below_tied, first_of, second_of, both}
use Rattle.hs_world.proofs.Trees.{name_in-root, name_in-here, name_in-elsewhere}
use Rattle.hs_overlay.specs.Names.{NamesOver, FoldersOver, known_over, changes_at, marked_by, marked, is_listed, with_names, with_change, with_changes, names_after}

abbrev Name : Type 0
Name = List ℕ

-- ---- whether a name is listed

or_true : (a : Bool) → (a || true) ≡ true
or_true true = refl
or_true false = refl

first_too : (c a l : Bool) → (c || (a || l)) ≡ cond c true (a || l)
first_too true a l = refl
first_too false a l = refl

same_too : (c l : Bool) → (c || l) ≡ cond c true (c || l)
same_too true l = refl
same_too false l = refl

later_too : (c a l : Bool) → (a || cond c true l) ≡ cond c true (a || l)
later_too true a l = or_true a
later_too false a l = refl

same_cond : (c : Bool) → (c || false) ≡ cond c true false
same_cond true = refl
same_cond false = refl

pub listed-put : (n k : Name) (l : List Name) → is_listed n (put_name k l) ≡ cond (same_name n k) true (is_listed n l)
listed-put n k [] = same_cond (same_name n k)
listed-put n k (x ∷ xs) =
    elim (name_cmp k x) as (λ r. name_cmp k x ≡ r → is_listed n (by_order r (k ∷ x ∷ xs) (x ∷ xs) (x ∷ put_name k xs)) ≡ cond (same_name n k) true (same_name n x || is_listed n xs)) [
      | Less ↦ λ _. first_too (same_name n k) (same_name n x) (is_listed n xs)
      | Equal ↦ λ e. same_too (same_name n x) (is_listed n xs) ∙ ap (λ y. cond (same_name n y) true (same_name n x || is_listed n xs)) (sym (names_same k x e))
      | Greater ↦ λ _. ap (λ b. same_name n x || b) (listed-put n k xs) ∙ later_too (same_name n k) (same_name n x) (is_listed n xs)
    ] refl

tied : (r : Ordering) → is_eq r ≡ true → r ≡ Equal
tied Less e = absurd (subst T (sym e) tt)
tied Equal e = refl
tied Greater e = absurd (subst T (sym e) tt)

same_is : (n k : Name) → same_name n k ≡ true → n ≡ k
same_is n k h = names_same n k (tied (name_cmp n k) h)

same_self : (n : Name) → same_name n n ≡ true
same_self n = ap is_eq (tied_itself names_total n)

pub listed-without : (n k : Name) (l : List Name) → is_listed n (without_name k l) ≡ cond (same_name n k) false (is_listed n l)
listed-without n k [] = elim (same_name n k) as (λ c. false ≡ cond c false false) [ true ↦ refl | false ↦ refl ]
listed-without n k (x ∷ xs) =
    elim (same_name k x) as (λ r. same_name k x ≡ r → is_listed n (cond (not r) (x ∷ without_name k xs) (without_name k xs)) ≡ cond (same_name n k) false (same_name n x || is_listed n xs)) [
      | true ↦ λ e. listed-without n k xs
          ∙ elim (same_name n k) as (λ c. same_name n k ≡ c → cond c false (is_listed n xs) ≡ cond c false (same_name n x || is_listed n xs)) [
            | true ↦ λ _. refl
            | false ↦ λ c. ap (λ b. b || is_listed n xs) (sym c ∙ ap (same_name n) (same_is k x e))
          ] refl
      | false ↦ λ e. ap (λ b. same_name n x || b) (listed-without n k xs)
          ∙ elim (same_name n k) as (λ c. same_name n k ≡ c → (same_name n x || cond c false (is_listed n xs)) ≡ cond c false (same_name n x || is_listed n xs)) [
            | true ↦ λ c. ap (λ b. b || false) (ap (λ y. same_name y x) (same_is n k c) ∙ e)
            | false ↦ λ _. refl
          ] refl
    ] refl

-- ---- the last name of a path

split : (x : Name) (xs : Path) → Split (x ∷ xs)
split x [] = record { name = x; last = refl; whole = refl }
split x (y ∷ ys) = let r = split y ys in record { name = r.name; last = r.last; whole = ap (λ l. x ∷ l) r.whole }

in_it : (p k : Path) (s : Split k) → p ≡ parent k → name_in p k ≡ Some s.name
in_it p k s e = ap (name_in p) (s.whole ∙ ap (λ l. l ++ s.name ∷ []) (sym e)) ∙ name_in-here p s.name

not_in_it : (p k : Path) (s : Split k) → (parent k ≡ p → ⊥) → name_in p k ≡ None
not_in_it p k s h = ap (name_in p) s.whole ∙ name_in-elsewhere p (parent k) s.name h

apart : (p q : Path) → is_eq (path_cmp p q) ≡ false → q ≡ p → ⊥
apart p q h e = subst T (sym (ap is_eq (tied_itself paths_total p)) ∙ ap (λ x. is_eq (path_cmp p x)) (sym e) ∙ h) tt

-- ---- a path comes or goes

-- what a change of this name makes of one that was known
abbrev noted : Option Name → Name → Bool → Option Bool → Option Bool
noted None n came old = old
noted (Some m) n came old = cond (same_name n m) (Some came) old

marked_one : (came : Bool) (f : FoldersOver) (k p : Path) (n : Name) (s : Split k) → get (changes_at (insert f (parent k) (insert (changes_at f (parent k)) s.name came)) p) n ≡ noted (name_in p k) n came (get (changes_at f p) n)
marked_one came f k p n s =
    ap (λ o. get (known_over o) n) (get-insert paths_total f (parent k) (insert (changes_at f (parent k)) s.name came) p)
    ∙ elim (path_cmp p (parent k)) as (λ r. path_cmp p (parent k) ≡ r → get (known_over (cond (is_eq r) (Some (insert (changes_at f (parent k)) s.name came)) (get f p))) n ≡ noted (name_in p k) n came (get (changes_at f p) n)) [
      | Less ↦ λ q. ap (λ o. noted o n came (get (changes_at f p) n)) (sym (not_in_it p k s (apart p (parent k) (ap is_eq q))))
      | Equal ↦ λ q.
          let e = paths_same p (parent k) q in
          get-insert names_total (changes_at f (parent k)) s.name came n
          ∙ ap (λ x. cond (same_name n s.name) (Some came) (get (changes_at f x) n)) (sym e)
          ∙ ap (λ o. noted o n came (get (changes_at f p) n)) (sym (in_it p k s e))
      | Greater ↦ λ q. ap (λ o. noted o n came (get (changes_at f p) n)) (sym (not_in_it p k s (apart p (parent k) (ap is_eq q))))
    ] refl

marked_at : (came : Bool) (f : FoldersOver) (k p : Path) (n : Name) → get (changes_at (marked came f k) p) n ≡ noted (name_in p k) n came (get (changes_at f p) n)
marked_at came f [] p n = ap (λ o. noted o n came (get (changes_at f p) n)) (sym (name_in-root p))
marked_at came f (x ∷ xs) p n =
    let s = split x xs in
    ap (λ o. get (changes_at (marked_by o came f (parent (x ∷ xs))) p) n) s.last ∙ marked_one came f (x ∷ xs) p n s

last_of : (front : Path) (n : Name) → last_name (front ++ n ∷ []) ≡ Some n
last_of [] n = refl
last_of (x ∷ []) n = refl
last_of (x ∷ y ∷ ys) n = last_of (y ∷ ys) n

-- what the code finds and makes
pub marked_told : (came : Bool) (f : FoldersOver) (p q front : Path) (n : Name) (names : NamesOver) → p ≡ front ++ n ∷ [] → q ≡ parent p → known_over (get f q) ≡ names → insert f q (insert names n came) ≡ marked came f p
marked_told came f p q front n names e g h =
    ap (λ m. insert f q (insert m n came)) (sym h)
    ∙ ap (λ x. insert f x (insert (changes_at f x) n came)) g
    ∙ sym (ap (λ o. marked_by o came f (parent p)) (ap last_name e ∙ last_of front n))

came_one : (o : Option Name) (n : Name) (names : List Name) (old : Option Bool) (base : Bool) → is_listed n names ≡ unwrap_or old base → is_listed n (with_name o names) ≡ unwrap_or (noted o n true old) base
came_one None n names old base h = h
came_one (Some m) n names old base h =
    listed-put n m names ∙ elim (same_name n m) as (λ c. cond c true (is_listed n names) ≡ unwrap_or (cond c (Some true) old) base) [ true ↦ refl | false ↦ h ]

went_one : (o : Option Name) (n : Name) (names : List Name) (old : Option Bool) (base : Bool) → is_listed n names ≡ unwrap_or old base → is_listed n (less_name o names) ≡ unwrap_or (noted o n false old) base
went_one None n names old base h = h
went_one (Some m) n names old base h =
    listed-without n m names ∙ elim (same_name n m) as (λ c. cond c false (is_listed n names) ≡ unwrap_or (cond c (Some false) old) base) [ true ↦ refl | false ↦ h ]

pub name-came : (f : FoldersOver) (t : Files) (k : Path) (e : Entry) (p : Path) (n : Name) (base : Bool) → is_listed n (names_in p (keys t)) ≡ unwrap_or (get (changes_at f p) n) base
    → is_listed n (names_in p (keys (insert t k e))) ≡ unwrap_or (get (changes_at (marked true f k) p) n) base
name-came f t k e p n base h =
    ap (is_listed n) (names-insert p t k e)
    ∙ came_one (name_in p k) n (names_in p (keys t)) (get (changes_at f p) n) base h
    ∙ ap (λ o. unwrap_or o base) (sym (marked_at true f k p n))

pub name-went : (f : FoldersOver) (t : Files) (k : Path) (p : Path) (n : Name) (base : Bool) → is_listed n (names_in p (keys t)) ≡ unwrap_or (get (changes_at f p) n) base
    → is_listed n (names_in p (keys (remove t k))) ≡ unwrap_or (get (changes_at (marked false f k) p) n) base
name-went f t k p n base h =
    ap (is_listed n) (names-remove p t k)
    ∙ went_one (name_in p k) n (names_in p (keys t)) (get (changes_at f p) n) base h
    ∙ ap (λ o. unwrap_or o base) (sym (marked_at false f k p n))

-- ---- the names of a folder are in order

abbrev pairs : List Name → List (Name × Unit {0})
pairs = map (λ n. (n, tt))

lower_names : (p k : Path) (n : Name) (es : List (Path × Entry)) → name_in p k ≡ Some n → T (below_all path_cmp k es) → T (below_all name_cmp n (pairs (names_in p (keys_of es))))
lower_names p k n [] h b = tt
lower_names p k n (e ∷ es) h b =
    elim (name_in p e.0) as (λ o. name_in p e.0 ≡ o → T (below_all name_cmp n (pairs (put_some o (names_in p (keys_of es)))))) [
      | None ↦ λ _. lower_names p k n es h (second_of (is_lt (path_cmp k e.0)) _ b)
      | Some m ↦ λ g. both (is_lt (name_cmp n m)) _ (subst (λ r. T (is_lt r)) (child_cmp p k e.0 n m h g) (first_of (is_lt (path_cmp k e.0)) _ b)) (lower_names p k n es h (second_of (is_lt (path_cmp k e.0)) _ b))
    ] refl

sorted_names : (p : Path) (es : List (Path × Entry)) → T (is_sorted path_cmp es) → T (is_sorted name_cmp (pairs (names_in p (keys_of es))))
sorted_names p [] h = tt
sorted_names p (e ∷ es) h =
    elim (name_in p e.0) as (λ o. name_in p e.0 ≡ o → T (is_sorted name_cmp (pairs (put_some o (names_in p (keys_of es)))))) [
      | None ↦ λ _. sorted_names p es (second_of (below_all path_cmp e.0 es) _ h)
      | Some m ↦ λ g. both (below_all name_cmp m (pairs (names_in p (keys_of es)))) _ (lower_names p e.0 m es g (first_of (below_all path_cmp e.0 es) _ h)) (sorted_names p es (second_of (below_all path_cmp e.0 es) _ h))
    ] refl

-- ---- sets of names

found : (n : Name) (names : List Name) → is_some (find name_cmp n (pairs names)) ≡ is_listed n names
found n [] = refl
found n (x ∷ xs) = elim (same_name n x) as (λ c. is_some (cond c (Some tt) (find name_cmp n (pairs xs))) ≡ (c || is_listed n xs)) [ true ↦ refl | false ↦ found n xs ]

firsts : (names : List Name) → keys_of (pairs names) ≡ names
firsts [] = refl
firsts (x ∷ xs) = ap (λ l. x ∷ l) (firsts xs)

-- ordered names are the keys of their set
keys_sorted : (names : List Name) → T (is_sorted name_cmp (pairs names)) → keys (from_sorted {R = name_cmp} (pairs names)) ≡ names
keys_sorted names h = ap keys_of (entries-from_sorted name_cmp (pairs names) h) ∙ firsts names

moved : (c l : Bool) (o : Option (Unit {0})) → (l || is_some (cond c (Some tt) o)) ≡ ((c || l) || is_some o)
moved true l o = or_true l
moved false l o = refl

all_in : (names : List Name) (set : NameMap) (n : Name) → is_some (get (with_names names set) n) ≡ (is_listed n names || is_some (get set n))
all_in [] set n = refl
all_in (x ∷ xs) set n =
    all_in xs (insert set x tt) n
    ∙ ap (λ o. is_listed n xs || is_some o) (get-insert names_total set x tt n)
    ∙ moved (same_name n x) (is_listed n xs) (get set n)

one_change : (set : NameMap) (c : Name × Bool) (n : Name) → is_some (get (with_change c.0 c.1 set) n) ≡ cond (same_name n c.0) c.1 (is_some (get set n))
one_change set (m, true) n = ap is_some (get-insert names_total set m tt n) ∙ elim (same_name n m) as (λ c. is_some (cond c (Some tt) (get set n)) ≡ cond c true (is_some (get set n))) [ true ↦ refl | false ↦ refl ]
one_change set (m, false) n = ap is_some (get-remove names_total set m n) ∙ elim (same_name n m) as (λ c. is_some (cond c None (get set n)) ≡ cond c false (is_some (get set n))) [ true ↦ refl | false ↦ refl ]

all_changes : (cs : List (Name × Bool)) (set : NameMap) (n : Name) → T (is_sorted name_cmp cs) → is_some (get (with_changes cs set) n) ≡ unwrap_or (find name_cmp n cs) (is_some (get set n))
all_changes [] set n h = refl
all_changes (c ∷ cs) set n h =
    all_changes cs (with_change c.0 c.1 set) n (second_of (below_all name_cmp c.0 cs) _ h)
    ∙ ap (unwrap_or (find name_cmp n cs)) (one_change set c n)
    ∙ elim (name_cmp n c.0) as (λ r. name_cmp n c.0 ≡ r → unwrap_or (find name_cmp n cs) (cond (is_eq r) c.1 (is_some (get set n))) ≡ unwrap_or (cond (is_eq r) (Some c.1) (find name_cmp n cs)) (is_some (get set n))) [
      | Less ↦ λ _. refl
      | Equal ↦ λ q. ap (λ o. unwrap_or o c.1) (find_none name_cmp n cs (below_tied name_cmp names_total n c.0 cs q (first_of (below_all name_cmp c.0 cs) _ h)))
      | Greater ↦ λ _. refl
    ] refl

same_unit : (a b : Option (Unit {0})) → is_some a ≡ is_some b → a ≡ b
same_unit None None h = refl
same_unit (Some x) (Some y) h = refl
same_unit None (Some y) h = absurd (subst T (sym h) tt)
same_unit (Some x) None h = absurd (subst T h tt)

or_none : (a : Bool) → (a || false) ≡ a
or_none true = refl
or_none false = refl

-- The names of a folder, from those that it had and those that came and went.
pub names-told : (p : Path) (t : Files) (changes : NamesOver) (old : List Name) → ((n : Name) → is_listed n (names_in p (keys t)) ≡ unwrap_or (get changes n) (is_listed n old)) → names_in p (keys t) ≡ names_after changes old
names-told p t changes old h =
    let now = names_in p (keys t) in
    let s = sorted_names p (entries t) (entries_sorted t) in
    let set : from_sorted {R = name_cmp} (pairs now) ≡ with_changes (entries changes) (with_names old empty) = same_map names_total names_same _ _ (λ n. same_unit _ _ (
    ap is_some (get-from_sorted name_cmp (pairs now) n s)
    ∙ found n now
    ∙ h n
    ∙ ap (λ o. unwrap_or o (is_listed n old)) (get-entries changes n)
    ∙ ap (unwrap_or (find name_cmp n (entries changes))) (sym (all_in old empty n ∙ ap (λ o. is_listed n old || is_some o) (get-empty name_cmp n) ∙ or_none (is_listed n old)))
    ∙ sym (all_changes (entries changes) (with_names old empty) n (entries_sorted changes)))) in
    sym (keys_sorted now s) ∙ ap keys set
