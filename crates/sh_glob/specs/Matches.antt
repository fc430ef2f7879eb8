-- Which texts are the paths of a field, as a filter (POSIX.1-2017, XCU 2.6.6 and 2.13.3): those that lead to an entry and match the field.
-- The first is asked of the tree alone, whatever the field is; the second of the field alone, whatever the tree has.
use Rattle.std.specs.Prelude.{◌≡◌, ◌↔◌, ℕ, Bool, true, false, not, ◌&&◌, List, [], ◌∷◌}
use Rattle.std.specs.FinMap.{keys}
use Rattle.std.specs.List.{list_any, AllByRecursion as ByRecursion}
use Rattle.std.specs.List.Sorted.{IsStrictlySortedBy}
use Rattle.hs_world.specs.Files.{Files, IsTree, entry_at, is_absent, is_dir}
use Rattle.hs_world.specs.Names.{name_cmp, same_name}
use Rattle.hs_world.specs.Paths.{Path, are_names, begins_at, components, go, is_component, is_step}
use Rattle.sh_glob.specs.declared.part.Part.{Part}
use Rattle.sh_glob.specs.declared.part.Part.TheVariants.{Literal, Glob}
use Rattle.sh_glob.specs.Parts.{parts_of, takes}
use Rattle.sh_glob.specs.Paths.{matching}

-- Each entry of a tree is in a folder, and each component of its path is a name.
pub record IsFileTree (t : Files) : Type 0 where
  pub in_folders : IsTree t
  pub named : ByRecursion (λ p. are_names p ≡ true) (keys t)

-- ---- asked of the tree

-- each of these components stands in a folder, and leads to an entry
abbrev pub lead_from : Files → Path → List (List ℕ) → Bool
lead_from t at [] = true
lead_from t at (x ∷ xs) = is_dir (entry_at t at) && is_component x && not (is_absent (entry_at t (go at x))) && lead_from t (go at x) xs

abbrev pub leads : Files → Path → List ℕ → Bool
leads t cwd text = lead_from t (begins_at cwd text) (components text)

-- ---- asked of the field

-- No pattern matches nothing between two slashes, `.` or `..`, which are no names of a folder.
abbrev pub fits : Part → List ℕ → Bool
fits (Literal bytes) component = same_name bytes component
fits (Glob items) component = not (is_step component) && takes items component

-- one by one
abbrev pub fit : List Part → List (List ℕ) → Bool
fit [] [] = true
fit (part ∷ parts) (x ∷ xs) = fits part x && fit parts xs
fit _ _ = false

abbrev pub matches : List (ℕ × Bool) → List ℕ → Bool
matches field text = fit (parts_of field) (components text)

-- ---- both

pub record ArePaths (t : Files) (cwd : Path) (field : List (ℕ × Bool)) (paths : List (List ℕ)) : Type 0 where
  -- by bytes, the least first, each once
  pub sorted : IsStrictlySortedBy name_cmp paths
  pub each : (text : List ℕ) → list_any (same_name text) paths ≡ (leads t cwd text && matches field text)

-- What the walk through the folders gives is the one list of these.
abbrev pub IsFilter : Type 0
IsFilter = (t : Files) (cwd : Path) (field : List (ℕ × Bool)) (paths : List (List ℕ)) → IsFileTree t → ArePaths t cwd field paths ↔ (paths ≡ matching t cwd field)
