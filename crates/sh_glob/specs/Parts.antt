-- The components of a field as patterns (POSIX.1-2017, XCU 2.13.3). Each byte of a field comes with whether it is quoted.
use Rattle.std.specs.Prelude.{ℕ, Bool, false, not, ◌&&◌, ◌||◌, ◌==◌, List, [], ◌∷◌, ◌++◌, map, if◌then◌else◌}
use Rattle.std.specs.List.{list_any}
use Rattle.hs_world.specs.Paths.{slash}
use Rattle.sh_pattern.specs.Items.{items_of, plain, unescaped}
use Rattle.sh_pattern.specs.Match.{matched}
use Rattle.sh_pattern.specs.declared.item.Item.{Item}
use Rattle.sh_pattern.specs.declared.item.Item.TheVariants.{Byte}
use Rattle.sh_glob.specs.declared.part.Part.{Part}
use Rattle.sh_glob.specs.declared.part.Part.TheVariants.{Literal, Glob}

-- quote removal (XCU 2.6.7)
abbrev pub bytes_of : List (ℕ × Bool) → List ℕ
bytes_of field = map (λ x. x.0) field

abbrev pub begins_with_slash : List (ℕ × Bool) → Bool
begins_with_slash [] = false
begins_with_slash (x ∷ r) = x.0 == slash

-- ---- components

abbrev pub put_first : ℕ × Bool → List (List (ℕ × Bool)) → List (List (ℕ × Bool))
put_first x [] = (x ∷ []) ∷ []
put_first x (p ∷ ps) = (x ∷ p) ∷ ps

-- What stands between the slashes. They are found first: one inside brackets or behind a backslash parts components too.
abbrev pub split : List (ℕ × Bool) → List (List (ℕ × Bool))
split [] = [] ∷ []
split (x ∷ r) = if x.0 == slash then [] ∷ split r else put_first x (split r)

-- these bytes come before the first component
abbrev pub behind : List (ℕ × Bool) → List (List (ℕ × Bool)) → List (List (ℕ × Bool))
behind front [] = front ∷ []
behind front (p ∷ ps) = (front ++ p) ∷ ps

-- `*`, `?` or `[`, not quoted
abbrev pub is_special : ℕ × Bool → Bool
is_special x = plain 42 x || plain 63 x || plain 91 x

-- Such a byte stands in it. An unquoted backslash quotes the next byte.
abbrev pub is_pattern : List (ℕ × Bool) → Bool
is_pattern text = list_any is_special (unescaped false text)

-- A component that is no pattern is taken as bytes.
abbrev pub part_of : List (ℕ × Bool) → Part
part_of component = if is_pattern component then Glob (items_of component) else Literal (bytes_of component)

abbrev pub parts_of : List (ℕ × Bool) → List Part
parts_of field = map part_of (split field)

-- ---- names that match

abbrev pub begins_with_dot : List ℕ → Bool
begins_with_dot [] = false
begins_with_dot (b ∷ bs) = b == 46

-- the pattern begins with a `.` that stands for itself
abbrev pub shows_dot : List Item → Bool
shows_dot (Byte b ∷ items) = b == 46
shows_dot _ = false

-- A `.` at the beginning of a name is matched only by itself.
abbrev pub takes : List Item → List ℕ → Bool
takes items name = (shows_dot items || not (begins_with_dot name)) && matched items name
