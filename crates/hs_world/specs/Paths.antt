-- Paths from the root, and how a text is read as one (POSIX.1-2017, XBD 4.13). `.` and `..` are folded as text, and the
-- root is its own parent.
use Rattle.std.specs.Prelude.{ℕ, List, [], ◌∷◌, ◌++◌, Bool, true, false, not, ◌&&◌, ◌||◌, leb, ltb, nat_eq, length, if◌then◌else◌, Option, Some, None}
use Rattle.std.specs.Str.{is_utf8}
use Rattle.hs_world.specs.Names.{same_name}

abbrev pub Path : Type 0
Path = List (List ℕ)

abbrev pub slash : ℕ
slash = 47

abbrev pub dot : List ℕ
dot = 46 ∷ []

abbrev pub dots : List ℕ
dots = 46 ∷ 46 ∷ []

abbrev pub has_byte : ℕ → List ℕ → Bool
has_byte b [] = false
has_byte b (x ∷ xs) = nat_eq b x || has_byte b xs

-- what may stand between two slashes
abbrev pub is_component : List ℕ → Bool
is_component bytes = leb (length bytes) 255 && not (has_byte 0 bytes) && is_utf8 bytes

-- the components that say where to go, and name nothing
abbrev pub is_step : List ℕ → Bool
is_step bytes = same_name bytes [] || same_name bytes dot || same_name bytes dots

-- the name of an entry
abbrev pub is_name : List ℕ → Bool
is_name bytes = not (has_byte slash bytes) && not (is_step bytes) && is_component bytes

abbrev pub are_names : Path → Bool
are_names [] = true
are_names (name ∷ names) = is_name name && are_names names

-- the folder that an entry is in
abbrev pub parent : Path → Path
parent [] = []
parent (x ∷ []) = []
parent (x ∷ y ∷ ys) = x ∷ parent (y ∷ ys)

-- ---- from bytes

abbrev pub put_byte : ℕ → List (List ℕ) → List (List ℕ)
put_byte b [] = (b ∷ []) ∷ []
put_byte b (x ∷ xs) = (b ∷ x) ∷ xs

-- what stands between the slashes
abbrev pub components : List ℕ → List (List ℕ)
components [] = [] ∷ []
components (b ∷ bs) = if nat_eq b slash then [] ∷ components bs else put_byte b (components bs)

-- the components behind the first, from its slash on
abbrev pub after : List ℕ → List (List ℕ)
after [] = []
after (b ∷ bs) = components bs

abbrev pub are_components : List (List ℕ) → Bool
are_components [] = true
are_components (x ∷ xs) = is_component x && are_components xs

abbrev pub go : Path → List ℕ → Path
go at x = if same_name x [] || same_name x dot then at else if same_name x dots then parent at else at ++ x ∷ []

abbrev pub go_all : Path → List (List ℕ) → Path
go_all at [] = at
go_all at (x ∷ xs) = go_all (go at x) xs

-- where a path begins
abbrev pub begins_at : Path → List ℕ → Path
begins_at cwd [] = cwd
begins_at cwd (b ∷ bs) = if nat_eq b slash then [] else cwd

abbrev pub is_path_text : List ℕ → Bool
is_path_text [] = false
is_path_text (b ∷ bs) = leb (length (b ∷ bs)) 4096 && are_components (components (b ∷ bs))

-- the path that a text names, seen from a folder
abbrev pub resolve : Path → List ℕ → Option Path
resolve cwd bytes = if is_path_text bytes then Some (go_all (begins_at cwd bytes) (components bytes)) else None
