-- Fields, as the marks of a word come.
use Rattle.std.specs.Prelude.{◌≡◌, ℕ, Bool, List, [], ◌∷◌, ◌++◌}
use Rattle.sh_split.specs.Fields.{put_first}
use Rattle.sh_split.specs.declared.place.Place.{Place}
use Rattle.sh_split.specs.declared.place.Place.TheVariants.{Between, Within, Behind}

-- these bytes come before the first field
abbrev pub before : List (ℕ × Bool) → List (List (ℕ × Bool)) → List (List (ℕ × Bool))
before [] fs = fs
before (x ∷ bytes) fs = put_first x (before bytes fs)

-- the fields that have ended, the bytes of the one that goes on, and the fields that come
abbrev pub so_far : List (List (ℕ × Bool)) → List (ℕ × Bool) → List (List (ℕ × Bool)) → List (List (ℕ × Bool))
so_far fields field fs = fields ++ before field fs

-- no field goes on but within one
abbrev pub IsIdle : Place → List (ℕ × Bool) → Type 0
IsIdle Between field = field ≡ []
IsIdle Within field = Unit {0}
IsIdle Behind field = field ≡ []
