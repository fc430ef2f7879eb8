-- Trees of files. The root is a folder, and no entry of the map.
use Rattle.std.specs.Prelude.{◌≡◌, ℕ, ◌+◌, List, [], ◌∷◌, ◌++◌, Bool, true, false, not, ◌&&◌, ◌||◌, ltb, length, map, if◌then◌else◌, Option, Some, None, ◌⊎◌, refl}
use Rattle.std.specs.Coded.{Coded, code_by, coded⊎, coded_bool}
use Rattle.std.specs.FinMap.{FinMap, code, get, insert, remove, keys, values, len}
use Rattle.std.proofs.Common.{inl, inr}
use Rattle.hs_world.specs.Names.{path_cmp, same_name, text_code, texts_code}
use Rattle.hs_world.specs.Paths.{Path, parent}
use Rattle.hs_world.specs.declared.entry.Entry.{Entry}
use Rattle.hs_world.specs.declared.entry.Entry.TheVariants.{File, Dir, Other}
use Rattle.hs_world.specs.declared.entry.Kind.{Kind}
use Rattle.hs_world.specs.declared.entry.Kind.TheVariants as kind

abbrev pub Files : Type 0
Files = FinMap path_cmp Entry

abbrev pub entry_in : Entry → List ℕ ⊎ Bool
entry_in (File bytes) = inl bytes
entry_in Dir = inr true
entry_in Other = inr false

abbrev pub entry_out : List ℕ ⊎ Bool → Entry
entry_out (inl bytes) = File bytes
entry_out (inr true) = Dir
entry_out (inr false) = Other

abbrev pub entry_back : (e : Entry) → entry_out (entry_in e) ≡ e
entry_back (File bytes) = refl
entry_back Dir = refl
entry_back Other = refl

abbrev pub entry_code : Coded Entry
entry_code = code_by (List ℕ ⊎ Bool) (coded⊎ text_code coded_bool) entry_in entry_out entry_back

abbrev pub files_code : Coded Files
files_code = code texts_code entry_code

-- what a path has
abbrev pub entry_at : Files → Path → Option Entry
entry_at t [] = Some Dir
entry_at t (x ∷ xs) = get t (x ∷ xs)

abbrev pub kind_of : Option Entry → Kind
kind_of None = kind.Absent
kind_of (Some (File bytes)) = kind.File
kind_of (Some Dir) = kind.Dir
kind_of (Some Other) = kind.Other

abbrev pub bytes_of : Option Entry → Option (List ℕ)
bytes_of (Some (File bytes)) = Some bytes
bytes_of _ = None

abbrev pub is_file : Option Entry → Bool
is_file (Some (File bytes)) = true
is_file _ = false

abbrev pub is_dir : Option Entry → Bool
is_dir (Some Dir) = true
is_dir _ = false

abbrev pub is_other : Option Entry → Bool
is_other (Some Other) = true
is_other _ = false

abbrev pub is_absent : Option Entry → Bool
is_absent None = true
is_absent _ = false

abbrev pub is_root : Path → Bool
is_root [] = true
is_root _ = false

-- the name of an entry in this folder, which is right in it
abbrev pub name_in : Path → Path → Option (List ℕ)
name_in [] (x ∷ []) = Some x
name_in (p ∷ ps) (x ∷ xs) = if same_name p x then name_in ps xs else None
name_in _ _ = None

abbrev pub put_some : Option (List ℕ) → List (List ℕ) → List (List ℕ)
put_some None names = names
put_some (Some name) names = name ∷ names

-- the names of what is right in a folder, in the order of the paths
abbrev pub names_in : Path → List Path → List (List ℕ)
names_in p [] = []
names_in p (x ∷ xs) = put_some (name_in p x) (names_in p xs)

abbrev pub names_of : Files → Path → Option (List (List ℕ))
names_of t p = if is_dir (entry_at t p) then Some (names_in p (keys t)) else None

-- Each entry of a tree is in a folder: what is no folder has no names.
abbrev pub IsTree : Files → Type 0
IsTree t = (p : Path) → is_dir (entry_at t p) ≡ false → names_in p (keys t) ≡ []

abbrev pub is_empty_list : {A : Type 0} → List A → Bool
is_empty_list [] = true
is_empty_list (x ∷ xs) = false

-- a file, or a folder without entries that is not the root
abbrev pub is_removable : Option Entry → Files → Path → Bool
is_removable (Some (File bytes)) t p = true
is_removable (Some Dir) t p = not (is_root p) && is_empty_list (names_in p (keys t))
is_removable _ t p = false

-- an entry with bytes at its end, where it is a file
abbrev pub extended : Entry → List ℕ → Entry
extended (File old) more = File (old ++ more)
extended Dir more = Dir
extended Other more = Other

abbrev pub extended_at : Option Entry → Files → Path → List ℕ → Files
extended_at None t p more = t
extended_at (Some e) t p more = insert t p (extended e more)

-- with bytes at the end of a file; where the path has no file, as it was
abbrev pub appended_by : Option Entry → Files → Path → List ℕ → Files
appended_by (Some (File old)) t p more = insert t p (File (old ++ more))
appended_by _ t p more = t

abbrev pub appended : Files → Path → List ℕ → Files
appended t p more = appended_by (entry_at t p) t p more

-- ---- the limit of a tree

abbrev pub entry_size : Entry → ℕ
entry_size (File bytes) = length bytes
entry_size Dir = 0
entry_size Other = 0

abbrev pub sizes : List Entry → ℕ
sizes [] = 0
sizes (e ∷ es) = entry_size e + sizes es

abbrev pub size_in : Option Entry → ℕ
size_in None = 0
size_in (Some e) = entry_size e

abbrev pub sum_of : List (Path × Entry) → ℕ
sum_of es = sizes (map (λ e. e.1) es)

-- the bytes of the files together
abbrev pub tree_bytes : Files → ℕ
tree_bytes t = sizes (values t)

abbrev pub most_bytes : ℕ
most_bytes = 268435456

abbrev pub most_entries : ℕ
most_entries = 262144

abbrev pub is_over : Files → Bool
is_over t = ltb most_bytes (tree_bytes t) || ltb most_entries (len t)

-- whether it passes its limit with bytes at the end of a file
abbrev pub is_over_with : Option Entry → Files → Path → List ℕ → Bool
is_over_with (Some (File old)) t p more = is_over (insert t p (File (old ++ more)))
is_over_with _ t p more = false
