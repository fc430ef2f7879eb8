-- The bytes of a tree, as it changes.
use Rattle.std.proofs.Common.{◌≡◌, ℕ, ◌+◌, ◌-◌, ◌≤◌, ◌<◌, min, length, List, [], ◌∷◌, ◌++◌, Bool, true, false, not, ◌&&◌, T, map, cond, subst, refl, sym, ap, ◌∙◌, arith, lit<}
use Rattle.std.specs.Prelude.{Option, Some, None, is_some, unwrap_or}
use Rattle.std.specs.declared.cmp.Ordering.{Ordering}
use Rattle.std.specs.declared.cmp.Ordering.TheVariants.{Less, Equal, Greater}
use Rattle.std.specs.Ordering.{is_lt, is_eq, eq_by_cmp}
use Rattle.std.specs.FinMap.Entries.{below_all, is_sorted, find, put, where_key, by_order}
use Rattle.std.specs.FinMap.{FinMap, len, len-entries, len-insert, len-remove, from_entries, entries, entries_sorted, values, get, get-entries, insert, remove, empty, entries-insert}
use Rattle.std.specs.Prelude.{◌≢◌, nat_eq, ltb, ◌||◌}
use Rattle.std.specs.Map.{keys_of}
use Rattle.std.specs.List.Sorted.{IsStrictlySortedBy}
use Rattle.std.specs.Cmp.{tied_itself}
use Rattle.std.specs.Cmp.Lexicographic.{pointwise, lists_ties, lists_equiv, texts_ties, nat_list_eq_equiv}
use Rattle.hs_world.specs.Names.{name_cmp, path_cmp, same_name}
use Rattle.hs_world.specs.Paths.{Path, parent}
use Rattle.hs_world.specs.Files.{Files, most_bytes, most_entries, is_over, is_over_with, entry_at, bytes_of, appended, appended_by, extended_at, entry_size, size_in, sum_of, tree_bytes, name_in, names_in, put_some}
use Rattle.hs_world.specs.declared.entry.Entry.{Entry}
use Rattle.hs_world.specs.declared.entry.Entry.TheVariants.{File, Dir, Other}
use Rattle.std.proofs.lemmas.List.{length-append}
use Rattle.std.proofs.lemmas.Bool.{ltb_from_iff, ltb-true, ltb-false, lt-ltb, le-ltb}
use Rattle.hs_text.proofs.Lists.{equal, texts_told}
use Rattle.hs_world.proofs.Maps.{entries_from, names_total, names_same, paths_total, paths_same, entries-empty, entries-remove, below_less, below_tied, find_none, first_of, second_of}

-- the folder of an entry in it
pub parent-push : (p : Path) (n : List ℕ) → parent (p ++ n ∷ []) ≡ p
parent-push [] n = refl
parent-push (x ∷ []) n = refl
parent-push (x ∷ y ∷ ys) n = ap (λ l. x ∷ l) (parent-push (y ∷ ys) n)

add_first : (v e s : ℕ) → (v + (e + s)) + 0 ≡ (e + s) + v
add_first v e s = omega arith

add_same : (v e s : ℕ) → (v + s) + e ≡ (e + s) + v
add_same v e s = omega arith

add_later : (v e s s' f : ℕ) → s' + f ≡ s + v → (e + s') + f ≡ (e + s) + v
add_later v e s s' f h = omega arith

sum_put : (k : Path) (v : Entry) (es : List (Path × Entry)) → T (is_sorted path_cmp es) → sum_of (put path_cmp k v es) + size_in (find path_cmp k es) ≡ sum_of es + entry_size v
sum_put k v [] h = omega arith
sum_put k v (e ∷ es) h =
    elim (path_cmp k e.0) as (λ r. path_cmp k e.0 ≡ r → sum_of (by_order r ((k, v) ∷ e ∷ es) ((e.0, v) ∷ es) (e ∷ put path_cmp k v es)) + size_in (cond (is_eq r) (Some e.1) (find path_cmp k es)) ≡ sum_of (e ∷ es) + entry_size v) [
      | Less ↦ λ p. ap (λ o. sum_of ((k, v) ∷ e ∷ es) + size_in o) (find_none path_cmp k es (below_less path_cmp paths_total k e.0 es p (first_of _ _ h))) ∙ add_first (entry_size v) (entry_size e.1) (sum_of es)
      | Equal ↦ λ p. add_same (entry_size v) (entry_size e.1) (sum_of es)
      | Greater ↦ λ p. add_later (entry_size v) (entry_size e.1) (sum_of es) (sum_of (put path_cmp k v es)) (size_in (find path_cmp k es)) (sum_put k v es (second_of _ _ h))
    ] refl

add_gone : (e s s' f : ℕ) → s' + f ≡ s → (e + s') + f ≡ e + s
add_gone e s s' f h = omega arith

sum_without : (k : Path) (es : List (Path × Entry)) → T (is_sorted path_cmp es) → sum_of (where_key path_cmp (λ x. not (eq_by_cmp path_cmp k x)) es) + size_in (find path_cmp k es) ≡ sum_of es
sum_without k [] h = refl
sum_without k (e ∷ es) h =
    let left = where_key path_cmp (λ x. not (eq_by_cmp path_cmp k x)) es in
    let rest = sum_without k es (second_of _ _ h) in
    elim (path_cmp k e.0) as (λ r. path_cmp k e.0 ≡ r → sum_of (cond (not (is_eq r)) (e ∷ left) left) + size_in (cond (is_eq r) (Some e.1) (find path_cmp k es)) ≡ sum_of (e ∷ es)) [
      | Less ↦ λ p. add_gone (entry_size e.1) (sum_of es) (sum_of left) (size_in (find path_cmp k es)) rest
      | Equal ↦ λ p.
          let none : find path_cmp k es ≡ None = find_none path_cmp k es (below_tied path_cmp paths_total k e.0 es p (first_of _ _ h)) in
          let all : sum_of left + 0 ≡ sum_of es = sym (ap (λ o. sum_of left + size_in o) none) ∙ rest in
          omega (arith, all)
      | Greater ↦ λ p. add_gone (entry_size e.1) (sum_of es) (sum_of left) (size_in (find path_cmp k es)) rest
    ] refl

-- an entry's bytes come in, and those of the one before go
pub bytes-insert : (t : Files) (k : Path) (v : Entry) → tree_bytes (insert t k v) + size_in (get t k) ≡ tree_bytes t + entry_size v
bytes-insert t k v =
    ap (λ o. tree_bytes (insert t k v) + size_in o) (get-entries t k)
    ∙ ap (λ es. sum_of es + size_in (find path_cmp k (entries t))) (entries-insert paths_total t k v)
    ∙ sum_put k v (entries t) (entries_sorted t)

pub bytes-remove : (t : Files) (k : Path) → tree_bytes (remove t k) + size_in (get t k) ≡ tree_bytes t
bytes-remove t k =
    ap (λ o. tree_bytes (remove t k) + size_in o) (get-entries t k)
    ∙ ap (λ es. sum_of es + size_in (find path_cmp k (entries t))) (entries-remove path_cmp paths_total paths_same t k)
    ∙ sum_without k (entries t) (entries_sorted t)

pub bytes-empty : tree_bytes empty ≡ 0
bytes-empty = ap sum_of (entries-empty path_cmp paths_total paths_same)

pub size-at_most : (t : Files) (k : Path) → size_in (get t k) ≤ tree_bytes t
size-at_most t k = let h = bytes-remove t k in omega (arith, h)

-- a sum that is kept no higher than a bound
pub kept_sum : (b t t' old new m : ℕ) → b ≡ min t m → b < m → t' + old ≡ t + new → old ≤ t → min ((b - old) + new) m ≡ min t' m
kept_sum b t t' old new m e l h s = omega (arith, e, l, h, s)

pub kept_rest : (b t t' old m : ℕ) → b ≡ min t m → b < m → t' + old ≡ t → b - old ≡ min t' m
kept_rest b t t' old m e l h = omega (arith, e, l, h)

-- the bytes of ordered entries are those of their map
pub bytes-from : (es : List (Path × Entry)) → IsStrictlySortedBy path_cmp (keys_of es) → tree_bytes (from_entries {R = path_cmp} es) ≡ sum_of es
bytes-from es h = ap sum_of (entries_from path_cmp paths_total paths_same es h)

pub set_sum : (t : Files) (fs : List (Path × Entry)) (k : Path) (v : Entry) (old new : ℕ) → from_entries {R = path_cmp} fs ≡ insert t k v → IsStrictlySortedBy path_cmp (keys_of fs)
    → old ≡ size_in (get t k) → new ≡ entry_size v → sum_of fs + old ≡ tree_bytes t + new
set_sum t fs k v old new e h o n =
    let a : sum_of fs ≡ tree_bytes (insert t k v) = sym (bytes-from fs h) ∙ ap tree_bytes e in
    let b = bytes-insert t k v in
    omega (arith, a, b, o, n)

pub removed_sum : (t : Files) (fs : List (Path × Entry)) (k : Path) (old : ℕ) → from_entries {R = path_cmp} fs ≡ remove t k → IsStrictlySortedBy path_cmp (keys_of fs)
    → old ≡ size_in (get t k) → sum_of fs + old ≡ tree_bytes t + 0
removed_sum t fs k old e h o =
    let a : sum_of fs ≡ tree_bytes (remove t k) = sym (bytes-from fs h) ∙ ap tree_bytes e in
    let b = bytes-remove t k in
    omega (arith, a, b, o)

pub old_at_most : (t : Files) (k : Path) (old : ℕ) → old ≡ size_in (get t k) → old ≤ tree_bytes t
old_at_most t k old o = let h = size-at_most t k in omega (arith, h, o)

-- ---- names in a folder

pub name_in-root : (p : Path) → name_in p [] ≡ None
name_in-root [] = refl
name_in-root (q ∷ qs) = refl

pub name_in-here : (p : Path) (n : List ℕ) → name_in p (p ++ n ∷ []) ≡ Some n
name_in-here [] n = refl
name_in-here (q ∷ qs) n = ap (λ (r : Ordering). cond (is_eq r) (name_in qs (qs ++ n ∷ [])) None) (tied_itself names_total q) ∙ name_in-here qs n

deeper : (x : List ℕ) (xs : Path) (n : List ℕ) → name_in [] (x ∷ xs ++ n ∷ []) ≡ None
deeper x [] n = refl
deeper x (y ∷ ys) n = refl

either : (b : Bool) → cond {A = Option (List ℕ)} b None None ≡ None
either true = refl
either false = refl

pub name_in-elsewhere : (p f : Path) (n : List ℕ) → f ≢ p → name_in p (f ++ n ∷ []) ≡ None
name_in-elsewhere [] [] n h = absurd (h refl)
name_in-elsewhere [] (x ∷ xs) n h = deeper x xs n
name_in-elsewhere (q ∷ qs) [] n h = ap (λ o. cond (same_name q n) o None) (name_in-root qs) ∙ either (same_name q n)
name_in-elsewhere (q ∷ qs) (x ∷ xs) n h =
    elim (name_cmp q x) as (λ r. name_cmp q x ≡ r → cond (is_eq r) (name_in qs (xs ++ n ∷ [])) None ≡ None) [
      | Less ↦ λ e. refl
      | Equal ↦ λ e. name_in-elsewhere qs xs n (λ s. h (ap (λ l. l ∷ xs) (sym (names_same q x e)) ∙ ap (λ l. q ∷ l) s))
      | Greater ↦ λ e. refl
    ] refl

pub name_found : (p path front : Path) (n : List ℕ) → path ≡ front ++ n ∷ [] → front ≡ p → Some n ≡ name_in p path
name_found p path front n e f = sym (ap (name_in p) (e ∙ ap (λ l. l ++ n ∷ []) f) ∙ name_in-here p n)

pub name_missed : (p path front : Path) (n : List ℕ) (b : Bool) → path ≡ front ++ n ∷ [] → (front ≡ p → b ≡ true) → b ≡ false → None ≡ name_in p path
name_missed p path front n b e t f = sym (ap (name_in p) e ∙ name_in-elsewhere p front n (λ q. subst T (sym (t q) ∙ f) tt))

pub name_of_root : (p path : Path) → length path ≡ 0 → None ≡ name_in p path
name_of_root p [] e = sym (name_in-root p)
name_of_root p (x ∷ xs) e = absurd (omega (arith, e))

-- ---- bytes at the end of a file

found_by : (e : Option Entry) (old : List ℕ) → Some old ≡ bytes_of e → e ≡ Some (File old)
found_by None old h = absurd (subst T (ap is_some h) tt)
found_by (Some (File text)) old h = ap (λ o. Some (File (unwrap_or o text))) (sym h)
found_by (Some Dir) old h = absurd (subst T (ap is_some h) tt)
found_by (Some Other) old h = absurd (subst T (ap is_some h) tt)

pub file_found : (t : Files) (p : Path) (old : List ℕ) → Some old ≡ bytes_of (entry_at t p) → get t p ≡ Some (File old)
file_found t [] old h = absurd (subst T (ap is_some h) tt)
file_found t (x ∷ xs) old h = found_by (get t (x ∷ xs)) old h

pub entry_file : (t : Files) (p : Path) (old : List ℕ) → Some old ≡ bytes_of (entry_at t p) → entry_at t p ≡ Some (File old)
entry_file t p old h = found_by (entry_at t p) old h

pub append_law : (t : Files) (p : Path) (old more : List ℕ) → Some old ≡ bytes_of (entry_at t p) → extended_at (get t p) t p more ≡ appended t p more
append_law t p old more h = ap (λ e. extended_at e t p more) (file_found t p old h) ∙ sym (ap (λ e. appended_by e t p more) (entry_file t p old h))

pub append_sum : (t : Files) (fs : List (Path × Entry)) (p : Path) (old more : List ℕ) → from_entries {R = path_cmp} fs ≡ extended_at (get t p) t p more → IsStrictlySortedBy path_cmp (keys_of fs)
    → Some old ≡ bytes_of (entry_at t p) → sum_of fs + 0 ≡ tree_bytes t + length more
append_sum t fs p old more e h f =
    let g = file_found t p old f in
    let s : sum_of fs + length old ≡ tree_bytes t + length (old ++ more) = set_sum t fs p (File (old ++ more)) (length old) (length (old ++ more)) (e ∙ ap (λ x. extended_at x t p more) g) h (sym (ap size_in g)) refl in
    let l = length-append old more in
    omega (arith, s, l)

no_file_by : (e : Option Entry) (t : Files) (p : Path) (more : List ℕ) → None ≡ bytes_of e → t ≡ appended_by e t p more
no_file_by None t p more h = refl
no_file_by (Some (File text)) t p more h = absurd (subst T (sym (ap is_some h)) tt)
no_file_by (Some Dir) t p more h = refl
no_file_by (Some Other) t p more h = refl

pub no_file : (t : Files) (p : Path) (more : List ℕ) → None ≡ bytes_of (entry_at t p) → t ≡ appended t p more
no_file t p more h = no_file_by (entry_at t p) t p more h

-- ---- the limit

same_test : (n a b : ℕ) → (n < a → n < b) → (n < b → n < a) → ltb n a ≡ ltb n b
same_test n a b f g = ltb_from_iff ((λ h. f (ltb-true n a h)), (λ h. lt-ltb n a (g h)))

capped_test : (n a m : ℕ) → n < m → ltb n (min a m) ≡ ltb n a
capped_test n a m h = same_test n (min a m) a (λ k. omega (arith, h, k)) (λ k. omega (arith, h, k))

pub over_told : (t : Files) (b n : ℕ) → b ≡ min (tree_bytes t) 18446744073709551615 → n ≡ len t → (ltb most_bytes b || ltb most_entries n) ≡ is_over t
over_told t b n e h = λ i. ((ap (ltb most_bytes) e ∙ capped_test most_bytes (tree_bytes t) 18446744073709551615 (lit< tt)) i) || ltb most_entries (h i)

neither : (a b : Bool) → (a || b) ≡ false → a ≡ false
neither true b h = absurd (subst T h tt)
neither false b h = refl

pub nothing-is_within : is_over empty ≡ false
nothing-is_within =
    sym (over_told empty 0 0 (sym (ap (λ n. min n 18446744073709551615) bytes-empty)) (sym (len-entries empty ∙ ap length (entries-empty path_cmp paths_total paths_same))))

pub within_bytes : (t : Files) → is_over t ≡ false → tree_bytes t ≤ most_bytes
within_bytes t h = ltb-false most_bytes (tree_bytes t) (neither (ltb most_bytes (tree_bytes t)) _ h)

pub with_told : (t : Files) (p : Path) (e : Entry) (x m size : ℕ) → x ≡ min ((tree_bytes t - size_in (get t p)) + size) 18446744073709551615
    → entry_size e ≡ size → m ≡ cond (is_some (get t p)) (len t) (len t + 1) → (ltb most_bytes x || ltb most_entries m) ≡ is_over (insert t p e)
with_told t p e x m size hx he hm =
    let a = bytes-insert t p e in
    let b = size-at_most t p in
    let y : (tree_bytes t - size_in (get t p)) + size ≡ tree_bytes (insert t p e) = omega (arith, a, b, he) in
    let l : m ≡ len (insert t p e) = hm ∙ sym (len-insert paths_total t p e) in
    λ i. ((ap (ltb most_bytes) (hx ∙ ap (λ n. min n 18446744073709551615) y) ∙ capped_test most_bytes (tree_bytes (insert t p e)) 18446744073709551615 (lit< tt)) i) || ltb most_entries (l i)

add_more : (t o l m b : ℕ) → min (min ((t - o) + l) b + m) b ≡ min ((t - o) + (l + m)) b
add_more t o l m b = omega arith

pub append_told : (t : Files) (p : Path) (old more : List ℕ) (b x m : ℕ) → Some old ≡ bytes_of (entry_at t p) → b ≡ min ((tree_bytes t - size_in (get t p)) + length old) 18446744073709551615
    → x ≡ min (b + length more) 18446744073709551615 → m ≡ cond (is_some (get t p)) (len t) (len t + 1) → (ltb most_bytes x || ltb most_entries m) ≡ is_over_with (entry_at t p) t p more
append_told t p old more b x m f hb hx hm =
    let s : x ≡ min ((tree_bytes t - size_in (get t p)) + length (old ++ more)) 18446744073709551615 =
    hx ∙ ap (λ n. min (n + length more) 18446744073709551615) hb ∙ add_more (tree_bytes t) (size_in (get t p)) (length old) (length more) 18446744073709551615
    ∙ ap (λ n. min ((tree_bytes t - size_in (get t p)) + n) 18446744073709551615) (sym (length-append old more)) in
    with_told t p (File (old ++ more)) x m (length (old ++ more)) s refl hm ∙ sym (ap (λ e. is_over_with e t p more) (entry_file t p old f))

fewer : (b : Bool) (n m : ℕ) → m ≡ cond b (n - 1) n → m ≤ n
fewer true n m e = omega (arith, e)
fewer false n m e = omega (arith, e)

within : (a b : Bool) → a ≡ false → b ≡ false → (a || b) ≡ false
within true b h k = absurd (subst T h tt)
within false b h k = k

second_too : (a b : Bool) → (a || b) ≡ false → b ≡ false
second_too true b h = absurd (subst T h tt)
second_too false b h = h

within_entries : (t : Files) → is_over t ≡ false → len t ≤ most_entries
within_entries t h = ltb-false most_entries (len t) (second_too (ltb most_bytes (tree_bytes t)) _ h)

-- a removal keeps a tree within its limit
pub removed_within : (t : Files) (p : Path) → is_over t ≡ false → is_over (remove t p) ≡ false
removed_within t p h =
    let a = bytes-remove t p in
    let b = within_bytes t h in
    let n : len (remove t p) ≤ len t = fewer (is_some (get t p)) (len t) (len (remove t p)) (len-remove paths_total t p) in
    let m = within_entries t h in
    within (ltb most_bytes (tree_bytes (remove t p))) (ltb most_entries (len (remove t p)))
    (le-ltb most_bytes (tree_bytes (remove t p)) (omega (arith, a, b))) (le-ltb most_entries (len (remove t p)) (omega (arith, n, m)))
