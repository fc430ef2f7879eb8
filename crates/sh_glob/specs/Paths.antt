-- Pathname expansion (POSIX.1-2017, XCU 2.6.6).
use Rattle.std.specs.Prelude.{ℕ, Bool, ◌==◌, List, [], ◌∷◌, if◌then◌else◌}
use Rattle.std.specs.List.{flat_map}
use Rattle.std.specs.Int.RustNames.{bit_and}
use Rattle.hs_world.specs.Files.{Files}
use Rattle.hs_world.specs.Paths.{Path, begins_at}
use Rattle.hs_world.specs.World.{WorldData}
use Rattle.hs_world.specs.declared.opts.Opts.{Opts}
use Rattle.hs_view.specs.Steps.{Done, nothing}
use Rattle.sh_glob.specs.Parts.{bytes_of, is_pattern, parts_of}
use Rattle.sh_glob.specs.Places.{reached_from}
use Rattle.sh_glob.specs.Texts.{in_order, texts}

-- ---- the paths of a field

-- the paths that match, seen from a folder, as a walk through the folders gives them; `Matches` says which texts these are
abbrev pub matching : Files → Path → List (ℕ × Bool) → List (List ℕ)
matching t cwd field = in_order (texts (reached_from t (begins_at cwd (bytes_of field)) (parts_of field)))

-- where no path matches, the field without its quotes
abbrev pub or_itself : List (List ℕ) → List (ℕ × Bool) → List (List ℕ)
or_itself [] field = bytes_of field ∷ []
or_itself (x ∷ xs) field = x ∷ xs

-- option f (XCU 2.14, set)
abbrev pub is_noglob : Opts → Bool
is_noglob opts = bit_and opts.0 1 == 1

-- the field without its quotes (XCU 2.6.7)
abbrev pub itself : List (ℕ × Bool) → List (List ℕ)
itself field = bytes_of field ∷ []

abbrev pub pattern_paths : WorldData → List (ℕ × Bool) → List (List ℕ)
pattern_paths w field = if is_noglob w.opts then itself field else or_itself (matching w.tree w.cwd field) field

abbrev pub field_paths : WorldData → List (ℕ × Bool) → List (List ℕ)
field_paths w field = if is_pattern field then pattern_paths w field else itself field

abbrev pub paths_of : WorldData → List (List (ℕ × Bool)) → List (List ℕ)
paths_of w fields = flat_map (field_paths w) fields

-- nothing is done
abbrev pub paths_done : List (List (ℕ × Bool)) → WorldData → Done (List (List ℕ))
paths_done fields w = nothing (paths_of w fields) w
