-- What the components of a field reach in a tree, one after another (POSIX.1-2017, XCU 2.13.3).
use Rattle.std.specs.Prelude.{ℕ, Bool, true, false, not, List, [], ◌∷◌, ◌++◌, Option, Some, None, if◌then◌else◌}
use Rattle.std.specs.List.{filter, flat_map}
use Rattle.hs_world.specs.Files.{Files, entry_at, is_absent, is_dir, names_of}
use Rattle.hs_world.specs.Paths.{Path, is_step, resolve, slash}
use Rattle.hs_world.specs.declared.entry.Kind.{Kind}
use Rattle.hs_world.specs.declared.entry.Kind.TheVariants as kind
use Rattle.sh_pattern.specs.declared.item.Item.{Item}
use Rattle.sh_glob.specs.declared.part.Part.{Part}
use Rattle.sh_glob.specs.declared.part.Part.TheVariants.{Literal, Glob}
use Rattle.sh_glob.specs.declared.place.Place.{Place}
use Rattle.sh_glob.specs.Parts.{takes}

-- ---- kinds

abbrev pub is_folder_kind : Kind → Bool
is_folder_kind kind.Dir = true
is_folder_kind _ = false

abbrev pub is_absent_kind : Kind → Bool
is_absent_kind kind.Absent = true
is_absent_kind _ = false

-- ---- what may stand in place of a component

-- where a component leads from a folder; an empty one, as between two slashes, stays there
abbrev pub led : Path → List ℕ → Option Path
led at [] = Some at
led at (b ∷ bs) = resolve at (b ∷ bs)

abbrev pub is_entry : Files → Option Path → Bool
is_entry t None = false
is_entry t (Some path) = not (is_absent (entry_at t path))

-- A component exists in a folder. Nothing, `.` and `..` need no more than that a folder is there.
-- Each entry of a tree is in a folder, so the others need no more than their entry.
abbrev pub is_there : Files → Path → List ℕ → Bool
is_there t at x = if is_step x then is_dir (entry_at t at) else is_entry t (resolve at x)

abbrev pub one_if : Bool → List ℕ → List (List ℕ)
one_if there x = if there then x ∷ [] else []

abbrev pub taken_of : List Item → List (List ℕ) → List (List ℕ)
taken_of items names = filter (takes items) names

abbrev pub taken : List Item → Option (List (List ℕ)) → List (List ℕ)
taken items None = []
taken items (Some names) = taken_of items names

-- What may stand in place of a component: each matching name of the folder for a pattern, else itself, where it exists.
-- `.` and `..` are no names of a folder, and what is no folder has no names.
abbrev pub choices : Files → Path → Part → List (List ℕ)
choices t at (Literal x) = one_if (is_there t at x) x
choices t at (Glob items) = taken items (names_of t at)

-- ---- from place to place

abbrev pub place : List ℕ → Path → Place
place text at = record { text = text; at = at }

abbrev pub placed : List ℕ → Option Path → List Place
placed text None = []
placed text (Some at) = place text at ∷ []

-- by one of these on; the text goes on as the field writes it, with what stands before the component
abbrev pub on_by : List ℕ → Place → List ℕ → List Place
on_by before from x = placed (from.text ++ before ++ x) (led from.at x)

abbrev pub on_from : Files → List ℕ → Part → Place → List Place
on_from t before part from = flat_map (on_by before from) (choices t from.at part)

abbrev pub on_from_all : Files → List ℕ → Part → List Place → List Place
on_from_all t before part places = flat_map (on_from t before part) places

abbrev pub slashed : List ℕ
slashed = slash ∷ []

-- by the components behind the first
abbrev pub reached : Files → List Part → List Place → List Place
reached t [] places = places
reached t (part ∷ parts) places = reached t parts (on_from_all t slashed part places)

-- all that these components reach from a folder
abbrev pub reached_from : Files → Path → List Part → List Place
reached_from t at [] = []
reached_from t at (part ∷ parts) = reached t parts (on_from t [] part (place [] at))
