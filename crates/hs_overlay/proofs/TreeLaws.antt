-- What effects make of the tree, by what they changed over a base's.
use Rattle.std.proofs.Common.{◌≡◌, ℕ, T, List, [], ◌∷◌, ◌++◌, Bool, true, false, cond, refl, sym, ap, ◌∙◌, subst, append_assoc}
use Rattle.std.specs.Prelude.{unwrap_or, None, Some, Option}
use Rattle.std.specs.declared.cmp.Ordering.{Ordering}
use Rattle.std.specs.declared.cmp.Ordering.TheVariants.{Less, Equal, Greater}
use Rattle.std.specs.Ordering.{eq_by_cmp, is_eq}
use Rattle.std.specs.FinMap.{empty, get, insert, remove, keys, get-insert, get-remove, get-empty}
use Rattle.hs_world.specs.Files.{Files as Tree, entry_at, kind_of, names_in, appended, appended_by}
use Rattle.hs_world.specs.Names.{path_cmp, name_cmp}
use Rattle.hs_world.specs.Paths.{Path}
use Rattle.hs_world.specs.declared.entry.Entry.{Entry}
use Rattle.hs_world.specs.declared.entry.Entry.TheVariants.{File, Dir, Other}
use Rattle.hs_world.proofs.Indexes.{keys-kept}
use Rattle.hs_world.proofs.Maps.{paths_total, paths_same}
use Rattle.hs_overlay.specs.Files.{no_files, with_entry, without_entry, with_more, left_files, under_files, FilesOver}
use Rattle.hs_overlay.specs.Names.{known_over, changes_at, is_listed}
use Rattle.hs_overlay.specs.Paths.{PathsOver, extended_by, shown_by, longer, put_path}
use Rattle.hs_overlay.specs.declared.files.Files.{Files}
use Rattle.hs_overlay.specs.declared.paths.PathOver.{PathOver}
use Rattle.hs_overlay.specs.declared.paths.PathOver.TheVariants.{Whole, Longer}
use Rattle.hs_overlay.proofs.NameLaws.{name-came, name-went}

abbrev same_path : Path → Path → Bool
same_path q p = eq_by_cmp path_cmp q p

-- ---- entries of a tree that changes

entry-insert : (t : Tree) (n : List ℕ) (ns : Path) (e : Entry) (q : Path) → entry_at (insert t (n ∷ ns) e) q ≡ cond (same_path q (n ∷ ns)) (Some e) (entry_at t q)
entry-insert t n ns e [] = refl
entry-insert t n ns e (y ∷ ys) = get-insert paths_total t (n ∷ ns) e (y ∷ ys)

entry-remove : (t : Tree) (n : List ℕ) (ns : Path) (q : Path) → entry_at (remove t (n ∷ ns)) q ≡ cond (same_path q (n ∷ ns)) None (entry_at t q)
entry-remove t n ns [] = refl
entry-remove t n ns (y ∷ ys) = get-remove paths_total t (n ∷ ns) (y ∷ ys)

root-insert : (t : Tree) (e : Entry) (q : Path) → entry_at (insert t [] e) q ≡ entry_at t q
root-insert t e [] = refl
root-insert t e (y ∷ ys) = get-insert paths_total t [] e (y ∷ ys)

root-remove : (t : Tree) (q : Path) → entry_at (remove t []) q ≡ entry_at t q
root-remove t [] = refl
root-remove t (y ∷ ys) = get-remove paths_total t [] (y ∷ ys)

equal : (r : Ordering) → is_eq r ≡ true → r ≡ Equal
equal Less e = absurd (subst T (sym e) tt)
equal Equal e = refl
equal Greater e = absurd (subst T (sym e) tt)

is_same : (q p : Path) → same_path q p ≡ true → q ≡ p
is_same q p h = paths_same q p (equal (path_cmp q p) h)

stays_as : (t : Tree) (n : List ℕ) (ns : Path) (more : List ℕ) (e : Option Entry) (q : Path) → get t (n ∷ ns) ≡ e → extended_by e more ≡ e → entry_at t q ≡ cond (same_path q (n ∷ ns)) (extended_by (entry_at t q) more) (entry_at t q)
stays_as t n ns more e q g f =
    elim (same_path q (n ∷ ns)) as (λ c. same_path q (n ∷ ns) ≡ c → entry_at t q ≡ cond c (extended_by (entry_at t q) more) (entry_at t q)) [
      | true ↦ λ s. let a : entry_at t q ≡ e = ap (entry_at t) (is_same q (n ∷ ns) s) ∙ g in a ∙ sym f ∙ ap (λ x. extended_by x more) (sym a)
      | false ↦ λ s. refl
    ] refl

-- what has bytes at its end, and all else as it was
entry-appended_by : (t : Tree) (n : List ℕ) (ns : Path) (more : List ℕ) (e : Option Entry) → get t (n ∷ ns) ≡ e → (q : Path) → entry_at (appended_by e t (n ∷ ns) more) q ≡ cond (same_path q (n ∷ ns)) (extended_by (entry_at t q) more) (entry_at t q)
entry-appended_by t n ns more (Some (File old)) g q =
    entry-insert t n ns (File (old ++ more)) q
    ∙ elim (same_path q (n ∷ ns)) as (λ c. same_path q (n ∷ ns) ≡ c → cond c (Some (File (old ++ more))) (entry_at t q) ≡ cond c (extended_by (entry_at t q) more) (entry_at t q)) [
      | true ↦ λ s. sym (ap (λ x. extended_by (entry_at t x) more) (is_same q (n ∷ ns) s) ∙ ap (λ x. extended_by x more) g)
      | false ↦ λ s. refl
    ] refl
entry-appended_by t n ns more None g q = stays_as t n ns more None q g refl
entry-appended_by t n ns more (Some Dir) g q = stays_as t n ns more (Some Dir) q g refl
entry-appended_by t n ns more (Some Other) g q = stays_as t n ns more (Some Other) q g refl

keys-appended_by : (t : Tree) (n : List ℕ) (ns : Path) (more : List ℕ) (e : Option Entry) → get t (n ∷ ns) ≡ e → keys (appended_by e t (n ∷ ns) more) ≡ keys t
keys-appended_by t n ns more None g = refl
keys-appended_by t n ns more (Some (File old)) g = keys-kept t (n ∷ ns) (File (old ++ more)) (File old) g
keys-appended_by t n ns more (Some Dir) g = refl
keys-appended_by t n ns more (Some Other) g = refl

keys-appended : (t : Tree) (p : Path) (more : List ℕ) → keys (appended t p more) ≡ keys t
keys-appended t [] more = refl
keys-appended t (n ∷ ns) more = keys-appended_by t n ns more (get t (n ∷ ns)) refl

extended_twice : (e : Option Entry) (a b : List ℕ) → extended_by (extended_by e a) b ≡ extended_by e (a ++ b)
extended_twice None a b = refl
extended_twice (Some (File text)) a b = ap (λ l. Some (File l)) (append_assoc text a b)
extended_twice (Some Dir) a b = refl
extended_twice (Some Other) a b = refl

longer_law : (o : Option PathOver) (old : Option Entry) (more : List ℕ) → shown_by (Some (longer o more)) old ≡ extended_by (shown_by o old) more
longer_law None old more = refl
longer_law (Some (Whole e)) old more = refl
longer_law (Some (Longer a)) old more = sym (extended_twice old a more)

pub kind-extended : (e : Option Entry) (more : List ℕ) → kind_of (extended_by e more) ≡ kind_of e
kind-extended None more = refl
kind-extended (Some (File text)) more = refl
kind-extended (Some Dir) more = refl
kind-extended (Some Other) more = refl

-- ---- what is told of an entry, by the changes

-- what `g` tells of each entry of a tree is what it tells of what the changes show over the old ones
abbrev Tells : {X : Type 0} → (Option Entry → X) → PathsOver → (Path → Option Entry) → Tree → Type 0
Tells g paths old t = (q : Path) → g (entry_at t q) ≡ g (shown_by (get paths q) (old q))

one_path : {X : Type 0} (g : Option Entry → X) (paths : PathsOver) (n : List ℕ) (ns : Path) (x : PathOver) (new theirs old : Option Entry) (q : Path)
    → (same_path q (n ∷ ns) ≡ true → g new ≡ g (shown_by (Some x) old)) → g theirs ≡ g (shown_by (get paths q) old)
    → g (cond (same_path q (n ∷ ns)) new theirs) ≡ g (shown_by (get (insert paths (n ∷ ns) x) q) old)
one_path g paths n ns x new theirs old q f h =
    elim (same_path q (n ∷ ns)) as (λ c. same_path q (n ∷ ns) ≡ c → g (cond c new theirs) ≡ g (shown_by (cond c (Some x) (get paths q)) old)) [
      | true ↦ λ s. f s
      | false ↦ λ s. h
    ] refl
    ∙ ap (λ o. g (shown_by o old)) (sym (get-insert paths_total paths (n ∷ ns) x q))

put_told : {X : Type 0} (g : Option Entry → X) (paths : PathsOver) (old : Path → Option Entry) (t : Tree) (p : Path) (e : Entry) → Tells g paths old t → Tells g (put_path p (Whole (Some e)) paths) old (insert t p e)
put_told g paths old t [] e h q = ap g (root-insert t e q) ∙ h q
put_told g paths old t (n ∷ ns) e h q = ap g (entry-insert t n ns e q) ∙ one_path g paths n ns (Whole (Some e)) (Some e) (entry_at t q) (old q) q (λ _. refl) (h q)

gone_told : {X : Type 0} (g : Option Entry → X) (paths : PathsOver) (old : Path → Option Entry) (t : Tree) (p : Path) → Tells g paths old t → Tells g (put_path p (Whole None) paths) old (remove t p)
gone_told g paths old t [] h q = ap g (root-remove t q) ∙ h q
gone_told g paths old t (n ∷ ns) h q = ap g (entry-remove t n ns q) ∙ one_path g paths n ns (Whole None) None (entry_at t q) (old q) q (λ _. refl) (h q)

-- what `g` tells of a file that grows hangs on no more than what it tells of the file
abbrev Grows : {X : Type 0} → (Option Entry → X) → Type 0
Grows g = (a c : Option Entry) (more : List ℕ) → g a ≡ g c → g (extended_by a more) ≡ g (extended_by c more)

more_told : {X : Type 0} (g : Option Entry → X) → Grows g → (paths : PathsOver) (old : Path → Option Entry) (t : Tree) (p : Path) (more : List ℕ) → Tells g paths old t → Tells g (put_path p (longer (get paths p) more) paths) old (appended t p more)
more_told g grows paths old t [] more h q = h q
more_told g grows paths old t (n ∷ ns) more h q =
    ap g (entry-appended_by t n ns more (get t (n ∷ ns)) refl q)
    ∙ one_path g paths n ns (longer (get paths (n ∷ ns)) more) (extended_by (entry_at t q) more) (entry_at t q) (old q) q
    (λ s. grows (entry_at t q) (shown_by (get paths q) (old q)) more (h q)
    ∙ ap g (sym (longer_law (get paths q) (old q) more) ∙ ap (λ x. shown_by (Some (longer (get paths x) more)) (old q)) (is_same q (n ∷ ns) s)))
    (h q)

kind_grows : (a c : Option Entry) (more : List ℕ) → kind_of a ≡ kind_of c → kind_of (extended_by a more) ≡ kind_of (extended_by c more)
kind_grows a c more h = kind-extended a more ∙ h ∙ sym (kind-extended c more)

abbrev itself : Option Entry → Option Entry
itself e = e

entry_grows : (a c : Option Entry) (more : List ℕ) → itself a ≡ itself c → itself (extended_by a more) ≡ itself (extended_by c more)
entry_grows a c more h = ap (λ e. extended_by e more) h

-- ---- effects

abbrev old_entry : Files → Tree → Path → Option Entry
old_entry f b p = entry_at (under_files f b) p

pub put_law : (f : Files) (loose : Bool) (b w : Tree) (p : Path) (e : Entry) → FilesOver f loose b w → FilesOver (with_entry p e f) loose b (insert w p e)
put_law f loose b w p e h = record {
  kinds = put_told kind_of f.paths (old_entry f b) w p e h.kinds;
  entries = λ l. put_told itself f.paths (old_entry f b) w p e (h.entries l);
  names = λ q n. name-came f.folders w p e q n (is_listed n (names_in q (keys (under_files f b)))) (h.names q n);
}

pub gone_law : (f : Files) (loose : Bool) (b w : Tree) (p : Path) → FilesOver f loose b w → FilesOver (without_entry p f) loose b (remove w p)
gone_law f loose b w p h = record {
  kinds = gone_told kind_of f.paths (old_entry f b) w p h.kinds;
  entries = λ l. gone_told itself f.paths (old_entry f b) w p (h.entries l);
  names = λ q n. name-went f.folders w p q n (is_listed n (names_in q (keys (under_files f b)))) (h.names q n);
}

pub more_law : (f : Files) (loose : Bool) (b w : Tree) (p : Path) (more : List ℕ) → FilesOver f loose b w → FilesOver (with_more p more f) loose b (appended w p more)
more_law f loose b w p more h = record {
  kinds = more_told kind_of kind_grows f.paths (old_entry f b) w p more h.kinds;
  entries = λ l. more_told itself entry_grows f.paths (old_entry f b) w p more (h.entries l);
  names = λ q n. ap (λ ks. is_listed n (names_in q ks)) (keys-appended w p more) ∙ h.names q n;
}

-- Bytes at the end of a file change no kind and no name.
kind-appended : (t : Tree) (p : Path) (more : List ℕ) (q : Path) → kind_of (entry_at (appended t p more) q) ≡ kind_of (entry_at t q)
kind-appended t [] more q = refl
kind-appended t (n ∷ ns) more q =
    ap kind_of (entry-appended_by t n ns more (get t (n ∷ ns)) refl q)
    ∙ elim (same_path q (n ∷ ns)) as (λ c. kind_of (cond c (extended_by (entry_at t q) more) (entry_at t q)) ≡ kind_of (entry_at t q)) [ true ↦ kind-extended (entry_at t q) more | false ↦ refl ]

no_truth : (A : Type 0) → true ≡ false → A
no_truth A h = absurd (subst T h tt)

-- bytes that went nobody knows where
pub loose_law : (f : Files) (loose : Bool) (b w : Tree) → FilesOver f loose b w → FilesOver f true b w
loose_law f loose b w h = record { kinds = h.kinds; entries = λ l. no_truth _ l; names = h.names }

pub somewhere_law : (f : Files) (b w : Tree) (p : Path) (more : List ℕ) → FilesOver f true b w → FilesOver f true b (appended w p more)
somewhere_law f b w p more h = record {
  kinds = λ q. kind-appended w p more q ∙ h.kinds q;
  entries = λ l. no_truth _ l;
  names = λ q n. ap (λ ks. is_listed n (names_in q ks)) (keys-appended w p more) ∙ h.names q n;
}

-- no name came or went
untouched : (q : Path) (n : List ℕ) (listed : Bool) → listed ≡ unwrap_or (get (changes_at empty q) n) listed
untouched q n listed = ap (λ o. unwrap_or o listed) (sym (ap (λ f. get (known_over f) n) (get-empty path_cmp q) ∙ get-empty name_cmp n))

pub left_law : (loose : Bool) (b t : Tree) → FilesOver (left_files t) loose b t
left_law loose b t = record {
  kinds = λ q. ap (λ o. kind_of (shown_by o (entry_at t q))) (sym (get-empty path_cmp q));
  entries = λ _ q. ap (λ o. shown_by o (entry_at t q)) (sym (get-empty path_cmp q));
  names = λ q n. untouched q n (is_listed n (names_in q (keys t)));
}

pub files_start : (t : Tree) → FilesOver no_files false t t
files_start t = record {
  kinds = λ q. ap (λ o. kind_of (shown_by o (entry_at t q))) (sym (get-empty path_cmp q));
  entries = λ _ q. ap (λ o. shown_by o (entry_at t q)) (sym (get-empty path_cmp q));
  names = λ q n. untouched q n (is_listed n (names_in q (keys t)));
}
