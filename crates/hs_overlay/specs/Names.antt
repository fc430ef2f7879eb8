-- The names of a folder that effects made come and go.
use Rattle.std.specs.Prelude.{ℕ, List, [], ◌∷◌, Bool, true, false, Option, Some, None}
use Rattle.std.specs.Coded.{Coded, coded_bool}
use Rattle.std.specs.FinMap.{FinMap, code, empty, get, insert, remove, keys, entries}
use Rattle.std.specs.List.{list_any}
use Rattle.hs_world.specs.Folders.{NameMap, last_name}
use Rattle.hs_world.specs.Names.{name_cmp, path_cmp, same_name, text_code, texts_code}
use Rattle.hs_world.specs.Paths.{Path, parent}

-- the names that came (true) and went
abbrev pub NamesOver : Type 0
NamesOver = FinMap name_cmp Bool

-- the same of each folder
abbrev pub FoldersOver : Type 0
FoldersOver = FinMap path_cmp NamesOver

abbrev pub names_over_code : Coded NamesOver
names_over_code = code text_code coded_bool

abbrev pub folders_over_code : Coded FoldersOver
folders_over_code = code texts_code names_over_code

abbrev pub known_over : Option NamesOver → NamesOver
known_over None = empty
known_over (Some names) = names

-- what came and went in a folder
abbrev pub changes_at : FoldersOver → Path → NamesOver
changes_at folders folder = known_over (get folders folder)

abbrev pub marked_by : Option (List ℕ) → Bool → FoldersOver → Path → FoldersOver
marked_by None came folders folder = folders
marked_by (Some name) came folders folder = insert folders folder (insert (changes_at folders folder) name came)

-- after a path came or went; the root does neither
abbrev pub marked : Bool → FoldersOver → Path → FoldersOver
marked came folders path = marked_by (last_name path) came folders (parent path)

abbrev pub is_listed : List ℕ → List (List ℕ) → Bool
is_listed name names = list_any (same_name name) names

-- ---- the names of a folder after a change

abbrev pub with_names : List (List ℕ) → NameMap → NameMap
with_names [] set = set
with_names (name ∷ names) set = with_names names (insert set name tt)

abbrev pub with_change : List ℕ → Bool → NameMap → NameMap
with_change name true set = insert set name tt
with_change name false set = remove set name

abbrev pub with_changes : List (List ℕ × Bool) → NameMap → NameMap
with_changes [] set = set
with_changes (c ∷ cs) set = with_changes cs (with_change c.0 c.1 set)

-- these names, with those that came and without those that went, in order
abbrev pub names_after : NamesOver → List (List ℕ) → List (List ℕ)
names_after changes names = keys (with_changes (entries changes) (with_names names empty))
