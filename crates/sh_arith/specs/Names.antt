-- Names with values, as an expression meets them.
use Rattle.std.specs.Prelude.{◌≡◌, ℕ, Bool, true, false, ℤ, List, [], ◌∷◌, ◌++◌, Option, Some, Result, Ok, Err, if◌then◌else◌}
use Rattle.std.specs.Str.{bytes_eq}
use Rattle.std.specs.Fmt.{signed_decimal}
use Rattle.sh_arith.specs.declared.names.Assigned.{Assigned}
use Rattle.sh_arith.specs.declared.names.Assigned.TheVariants.{Yes, ReadOnly}

pub record Assignment : Type 0 where
  pub name : List ℕ
  pub value : ℤ

abbrev pub to : List ℕ → ℤ → Assignment
to x v = record { name = x; value = v }

pub record Table : Type 0 where
  -- the value of a name, if it has one
  pub value : List ℕ → Option (List ℕ)
  pub read_only : List ℕ → Bool
  -- the assignments made so far
  pub made : List Assignment

-- The name gets the number as its value, in decimal.
abbrev pub assigned : List ℕ → ℤ → Table → Table
assigned x v w = record w { value = λ y. if bytes_eq y x then Some (signed_decimal v) else w.value y; made = w.made ++ to x v ∷ [] }

-- one assignment after another
abbrev pub Assigns : List Assignment → Table → Table
Assigns [] w = w
Assigns (a ∷ more) w = Assigns more (assigned a.name a.value w)

-- How a `set` leaves a table, by its answer: it assigns, or leaves a name that is read only, or halts before or after it
-- assigned. Which halts may come in either case is given.
pub data Sets {H : Type 0} (unmade made : H → Type 0) : Result Assigned H → List ℕ → ℤ → Table → Table → Type 0 where
  yes : {x : List ℕ} {v : ℤ} {w : Table} → w.read_only x ≡ false → Sets unmade made (Ok Yes) x v w (assigned x v w)
  kept : {x : List ℕ} {v : ℤ} {w : Table} → w.read_only x ≡ true → Sets unmade made (Ok ReadOnly) x v w w
  halted : {x : List ℕ} {v : ℤ} {w : Table} (h : H) → unmade h → Sets unmade made (Err h) x v w w
  halted_after : {x : List ℕ} {v : ℤ} {w : Table} (h : H) → made h → w.read_only x ≡ false → Sets unmade made (Err h) x v w (assigned x v w)
