-- The table that the tests' names tell by three lists: the values at the start, the names that are read only, and the
-- assignments made, the newest last. Only the tests use it.
use Rattle.std.specs.Prelude.{ℕ, ℤ, Bool, true, false, List, [], ◌∷◌, Option, Some, None, if◌then◌else◌}
use Rattle.std.specs.Str.{bytes_eq}
use Rattle.std.specs.Fmt.{signed_decimal}
use Rattle.sh_arith.specs.Names.{Table, Assignment, to, Assigns}

-- the value that a list gives a name first
abbrev pub value_in : List (List ℕ × List ℕ) → List ℕ → Option (List ℕ)
value_in [] y = None
value_in (entry ∷ more) y = if bytes_eq entry.0 y then Some entry.1 else value_in more y

abbrev pub listed : List (List ℕ) → List ℕ → Bool
listed [] y = false
listed (x ∷ more) y = if bytes_eq x y then true else listed more y

abbrev pub assignments : List (List ℕ × ℤ) → List Assignment
assignments [] = []
assignments (a ∷ more) = to a.0 a.1 ∷ assignments more

-- before any assignment
abbrev pub at_start : List (List ℕ × List ℕ) → List (List ℕ) → Table
at_start values read_only = record { value = value_in values; read_only = listed read_only; made = [] }

abbrev pub table_of : List (List ℕ × List ℕ) → List (List ℕ) → List (List ℕ × ℤ) → Table
table_of values read_only made = Assigns (assignments made) (at_start values read_only)

-- the number that the newest of the assignments gives a name, and where none does, the one given
abbrev pub newest : Option ℤ → List (List ℕ × ℤ) → List ℕ → Option ℤ
newest sofar [] y = sofar
newest sofar (a ∷ more) y = newest (if bytes_eq y a.0 then Some a.1 else sofar) more y

-- a value, by a number where there is one
abbrev pub told : Option ℤ → Option (List ℕ) → Option (List ℕ)
told None value = value
told (Some v) value = Some (signed_decimal v)
