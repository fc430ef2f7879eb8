-- A tree stays one of files as its entries come and go.
use Rattle.std.proofs.Common.{◌≡◌, List, [], ◌∷◌, Bool, true, false, not, cond, sym, subst}
use Rattle.std.specs.declared.cmp.Ordering.{Ordering}
use Rattle.std.specs.declared.cmp.Ordering.TheVariants.{Less, Equal, Greater}
use Rattle.std.specs.Ordering.{eq_by_cmp}
use Rattle.std.specs.FinMap.{empty, entries, entries-insert, insert, remove}
use Rattle.std.specs.FinMap.Entries.{by_order, put, where_key}
use Rattle.std.specs.List.{AllByRecursion as ByRecursion}
use Rattle.std.specs.Map.{keys_of}
use Rattle.hs_world.specs.Files.{Files, entry_at, is_dir, is_removable}
use Rattle.hs_world.specs.Names.{path_cmp}
use Rattle.hs_world.specs.Paths.{Path, are_names, parent}
use Rattle.hs_world.specs.declared.entry.Entry.{Entry}
use Rattle.hs_world.proofs.InFolders.{tree-empty, tree-removed, tree-set}
use Rattle.hs_world.proofs.Maps.{entries-empty, entries-remove, paths_same, paths_total}
use Rattle.sh_glob.specs.Matches.{IsFileTree}

abbrev Right : Path → Type 0
Right p = are_names p ≡ true

put_right : (k : Path) (v : Entry) (es : List (Path × Entry)) → Right k → ByRecursion Right (keys_of es) → ByRecursion Right (keys_of (put path_cmp k v es))
put_right k v [] r h = (r, tt)
put_right k v (e ∷ es) r h = by (path_cmp k e.0) (put_right k v es r h.1)
  where
    by : (o : Ordering) → ByRecursion Right (keys_of (put path_cmp k v es)) → ByRecursion Right (keys_of (by_order o ((k, v) ∷ e ∷ es) ((e.0, v) ∷ es) (e ∷ put path_cmp k v es)))
    by Less more = (r, h)
    by Equal more = h
    by Greater more = (h.0, more)

left_right : (p : Path → Bool) (es : List (Path × Entry)) → ByRecursion Right (keys_of es) → ByRecursion Right (keys_of (where_key path_cmp p es))
left_right p [] h = tt
left_right p (e ∷ es) h = by (p e.0) (left_right p es h.1)
  where
    by : (b : Bool) → ByRecursion Right (keys_of (where_key path_cmp p es)) → ByRecursion Right (keys_of (cond b (e ∷ where_key path_cmp p es) (where_key path_cmp p es)))
    by true more = (h.0, more)
    by false more = more

-- no entry
pub file_tree-empty : IsFileTree empty
file_tree-empty = record {
  in_folders = tree-empty;
  named = subst (λ (es : List (Path × Entry)). ByRecursion Right (keys_of es)) (sym (entries-empty path_cmp paths_total paths_same)) tt;
}

-- an entry comes into a folder, in place of what is no folder
pub file_tree-set : (t : Files) (p : Path) (e : Entry) → IsFileTree t → are_names p ≡ true → is_dir (entry_at t (parent p)) ≡ true → is_dir (entry_at t p) ≡ false → IsFileTree (insert t p e)
file_tree-set t p e h r folder place = record {
  in_folders = tree-set t p e h.in_folders folder place;
  named = subst (λ (es : List (Path × Entry)). ByRecursion Right (keys_of es)) (sym (entries-insert paths_total t p e)) (put_right p e (entries t) r h.named);
}

-- a file goes, or a folder without entries
pub file_tree-removed : (t : Files) (p : Path) → IsFileTree t → is_removable (entry_at t p) t p ≡ true → IsFileTree (remove t p)
file_tree-removed t p h free = record {
  in_folders = tree-removed t p h.in_folders free;
  named = subst (λ (es : List (Path × Entry)). ByRecursion Right (keys_of es)) (sym (entries-remove path_cmp paths_total paths_same t p)) (left_right (λ x. not (eq_by_cmp path_cmp p x)) (entries t) h.named);
}
