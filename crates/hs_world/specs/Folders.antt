-- The names of the entries of each folder, as they are kept beside the tree.
use Rattle.std.specs.Prelude.{ℕ, List, [], ◌∷◌, Option, Some, None, ◌≡◌, if◌then◌else◌, refl}
use Rattle.std.specs.Coded.{Coded}
use base.Stored.{coded_unit}
use Rattle.std.specs.FinMap.{FinMap, code, empty, get, insert, remove, keys}
use Rattle.hs_world.specs.Names.{name_cmp, path_cmp, text_code, texts_code}
use Rattle.hs_world.specs.Paths.{Path, parent}
use Rattle.hs_world.specs.Files.{Files, names_in, is_empty_list}

-- a set of names
abbrev pub NameMap : Type 0
NameMap = FinMap name_cmp (Unit {0})

abbrev pub FolderMap : Type 0
FolderMap = FinMap path_cmp NameMap

abbrev pub name_code : Coded NameMap
name_code = code text_code coded_unit

abbrev pub folders_code : Coded FolderMap
folders_code = code texts_code name_code

-- the name of an entry in its folder; the root has none
abbrev pub last_name : Path → Option (List ℕ)
last_name [] = None
last_name (x ∷ []) = Some x
last_name (x ∷ y ∷ ys) = last_name (y ∷ ys)

abbrev pub known : Option NameMap → NameMap
known None = empty
known (Some names) = names

abbrev pub added_to : Option (List ℕ) → FolderMap → Path → FolderMap
added_to None folders folder = folders
added_to (Some name) folders folder = insert folders folder (insert (known (get folders folder)) name tt)

-- after an entry came
abbrev pub added : FolderMap → Path → FolderMap
added folders path = added_to (last_name path) folders (parent path)

abbrev pub taken_from : Option (List ℕ) → Option NameMap → FolderMap → Path → FolderMap
taken_from (Some name) (Some names) folders folder = insert folders folder (remove names name)
taken_from _ _ folders folder = folders

-- after an entry went
abbrev pub taken : FolderMap → Path → FolderMap
taken folders path = taken_from (last_name path) (get folders (parent path)) folders (parent path)

abbrev pub dropped_by : Option NameMap → FolderMap → Path → FolderMap
dropped_by None folders folder = folders
dropped_by (Some names) folders folder = if is_empty_list (keys names) then remove folders folder else folders

-- without a folder that has no entries
abbrev pub dropped : FolderMap → Path → FolderMap
dropped folders folder = dropped_by (get folders folder) folders folder

abbrev pub names_known : Option NameMap → List (List ℕ)
names_known None = []
names_known (Some names) = keys names

-- The names that are kept are those of the tree.
abbrev pub IsIndex : FolderMap → Files → Type 0
IsIndex folders t = (folder : Path) → names_known (get folders folder) ≡ names_in folder (keys t)
