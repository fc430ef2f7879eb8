-- Each entry stays in a folder as a tree changes.
use Rattle.std.proofs.Common.{◌≡◌, ℕ, List, [], ◌∷◌, Bool, true, false, not, ◌&&◌, T, cond, subst, refl, sym, ap, ◌∙◌}
use Rattle.std.specs.Prelude.{Option, Some, None, is_some, if◌then◌else◌}
use Rattle.std.specs.Ordering.{eq_by_cmp}
use Rattle.std.specs.Map.{keys_of}
use Rattle.std.specs.FinMap.{empty, get, insert, remove, keys, get-insert, get-remove}
use Rattle.hs_text.proofs.Lists.{equal}
use Rattle.hs_world.specs.Names.{path_cmp, same_name, with_name, less_name}
use Rattle.hs_world.specs.Paths.{Path, parent}
use Rattle.hs_world.specs.Files.{Files, IsTree, entry_at, is_dir, is_removable, is_root, is_empty_list, name_in, names_in}
use Rattle.hs_world.specs.declared.entry.Entry.{Entry}
use Rattle.hs_world.specs.declared.entry.Entry.TheVariants.{File, Dir, Other}
use Rattle.hs_world.proofs.Folders.{names-insert, names-remove}
use Rattle.hs_world.proofs.Indexes.{keys-kept}
use Rattle.hs_world.proofs.Maps.{entries-empty, names_same, paths_total, paths_same}

pub tree-empty : IsTree empty
tree-empty p none = ap (λ (es : List (Path × Entry)). names_in p (keys_of es)) (entries-empty path_cmp paths_total paths_same)

-- ---- names in a folder

no_name : (n : List ℕ) → (None ≡ Some n) → ⊥
no_name n e = subst T (sym (ap is_some e)) tt

-- the folder of what is right in it
in-parent : (q p : Path) (n : List ℕ) → name_in q p ≡ Some n → parent p ≡ q
in-parent [] [] n e = absurd (no_name n e)
in-parent [] (x ∷ []) n e = refl
in-parent [] (x ∷ y ∷ ys) n e = absurd (no_name n e)
in-parent (q ∷ qs) [] n e = absurd (no_name n e)
in-parent (q ∷ qs) (x ∷ xs) n e = step (in-parent qs xs n) (same_name q x) refl e
  where
    deeper : (ys : Path) → name_in qs ys ≡ Some n → parent (x ∷ ys) ≡ x ∷ parent ys
    deeper [] h = absurd (none qs h)
      where
        none : (rs : Path) → name_in rs [] ≡ Some n → ⊥
        none [] h = no_name n h
        none (r ∷ rs) h = no_name n h
    deeper (y ∷ ys) h = refl

    step : (name_in qs xs ≡ Some n → parent xs ≡ qs) → (b : Bool) → same_name q x ≡ b → (if b then name_in qs xs else None) ≡ Some n → parent (x ∷ xs) ≡ q ∷ qs
    step f true s h = deeper xs h ∙ ap (λ (ys : Path). x ∷ ys) (f h) ∙ ap (λ (y : List ℕ). y ∷ qs) (sym (names_same q x (equal _ (subst T (sym s) tt))))
    step f false s h = absurd (no_name n h)

not-in_itself : (p : Path) → name_in p p ≡ None
not-in_itself [] = refl
not-in_itself (x ∷ xs) = elim (same_name x x) as (λ b. (if b then name_in xs xs else None) ≡ None) [ true ↦ not-in_itself xs | false ↦ refl ]

nameless : (q p : Path) (o : Option (List ℕ)) → name_in q p ≡ o → (parent p ≡ q → ⊥) → o ≡ None
nameless q p None e other = refl
nameless q p (Some n) e other = absurd (other (in-parent q p n e))

not-both : (b : Bool) → b ≡ true → b ≡ false → ⊥
not-both b t f = subst T (sym t ∙ f) tt

abbrev same_path : Path → Path → Bool
same_path q p = eq_by_cmp path_cmp q p

same_is : (q p : Path) → same_path q p ≡ true → q ≡ p
same_is q p s = paths_same q p (equal _ (subst T (sym s) tt))

-- ---- an entry comes into a folder, in place of what is no folder

others_stay : (t : Files) (p : Path) (e : Entry) (q : Path) → same_path q p ≡ false → entry_at (insert t p e) q ≡ entry_at t q
others_stay t p e [] s = refl
others_stay t p e (y ∷ ys) s = get-insert paths_total t p e (y ∷ ys) ∙ ap (λ (b : Bool). cond b (Some e) (get t (y ∷ ys))) s

pub tree-set : (t : Files) (p : Path) (e : Entry) → IsTree t → is_dir (entry_at t (parent p)) ≡ true → is_dir (entry_at t p) ≡ false → IsTree (insert t p e)
tree-set t p e h folder place = λ q none.
    names-insert q t p e
    ∙ elim (same_path q p) as (λ b. same_path q p ≡ b → with_name (name_in q p) (names_in q (keys t)) ≡ []) [
      | true ↦ λ s.
          let is : q ≡ p = same_is q p s in
          ap (λ (o : Option (List ℕ)). with_name o (names_in q (keys t))) (ap (λ (y : Path). name_in y p) is ∙ not-in_itself p)
          ∙ h q (ap (λ (y : Path). is_dir (entry_at t y)) is ∙ place)
      | false ↦ λ s.
          let old : is_dir (entry_at t q) ≡ false = sym (ap is_dir (others_stay t p e q s)) ∙ none in
          ap (λ (o : Option (List ℕ)). with_name o (names_in q (keys t)))
          (nameless q p (name_in q p) refl (λ at. not-both (is_dir (entry_at t q)) (ap (λ (y : Path). is_dir (entry_at t y)) (sym at) ∙ folder) old))
          ∙ h q old
    ] refl

-- ---- other bytes come into a file

file_dir : (t : Files) (p : Path) (old new : List ℕ) (q : Path) → get t p ≡ Some (File old) → is_dir (entry_at (insert t p (File new)) q) ≡ is_dir (entry_at t q)
file_dir t p old new [] g = refl
file_dir t p old new (y ∷ ys) g =
    ap is_dir (get-insert paths_total t p (File new) (y ∷ ys))
    ∙ elim (same_path (y ∷ ys) p) as (λ b. same_path (y ∷ ys) p ≡ b → is_dir (cond b (Some (File new)) (get t (y ∷ ys))) ≡ is_dir (get t (y ∷ ys))) [
      | true ↦ λ s. sym (ap is_dir (ap (get t) (same_is (y ∷ ys) p s) ∙ g))
      | false ↦ λ s. refl
    ] refl

pub tree-rewritten : (t : Files) (p : Path) (old new : List ℕ) → get t p ≡ Some (File old) → IsTree t → IsTree (insert t p (File new))
tree-rewritten t p old new g h = λ q none. ap (names_in q) (keys-kept t p (File new) (File old) g) ∙ h q (sym (file_dir t p old new q g) ∙ none)

-- ---- a file goes, or a folder without entries

is_nothing : (names : List (List ℕ)) → is_empty_list names ≡ true → names ≡ []
is_nothing [] h = refl
is_nothing (x ∷ xs) h = absurd (subst T (sym h) tt)

second_is : (a b : Bool) → (a && b) ≡ true → b ≡ true
second_is true b h = h
second_is false b h = absurd (subst T (sym h) tt)

has_none : (t : Files) (p : Path) (e : Option Entry) → entry_at t p ≡ e → is_removable e t p ≡ true → IsTree t → names_in p (keys t) ≡ []
has_none t p None at free h = absurd (subst T (sym free) tt)
has_none t p (Some (File bytes)) at free h = h p (ap is_dir at)
has_none t p (Some Dir) at free h = is_nothing (names_in p (keys t)) (second_is (not (is_root p)) (is_empty_list (names_in p (keys t))) free)
has_none t p (Some Other) at free h = absurd (subst T (sym free) tt)

less_nothing : (o : Option (List ℕ)) → less_name o [] ≡ []
less_nothing None = refl
less_nothing (Some n) = refl

others_left : (t : Files) (p q : Path) → same_path q p ≡ false → entry_at (remove t p) q ≡ entry_at t q
others_left t p [] s = refl
others_left t p (y ∷ ys) s = get-remove paths_total t p (y ∷ ys) ∙ ap (λ (b : Bool). cond b None (get t (y ∷ ys))) s

pub tree-removed : (t : Files) (p : Path) → IsTree t → is_removable (entry_at t p) t p ≡ true → IsTree (remove t p)
tree-removed t p h free = λ q none.
    let had : names_in q (keys t) ≡ [] =
    elim (same_path q p) as (λ b. same_path q p ≡ b → names_in q (keys t) ≡ []) [
      | true ↦ λ s. ap (λ (y : Path). names_in y (keys t)) (same_is q p s) ∙ has_none t p (entry_at t p) refl free h
      | false ↦ λ s. h q (sym (ap is_dir (others_left t p q s)) ∙ none)
    ] refl in
    names-remove q t p ∙ ap (less_name (name_in q p)) had ∙ less_nothing (name_in q p)
