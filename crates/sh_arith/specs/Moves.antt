-- What the code of an instruction says of names.
use Rattle.std.specs.Prelude.{◌≡◌, ℕ, ℤ, false, List, [], ◌∷◌, ◌++◌, Option, Result, Ok, Err}
use Rattle.sh_arith.specs.declared.names.ArithErr.{ArithErr}
use Rattle.sh_arith.specs.declared.names.ArithErr.TheVariants as err
use Rattle.sh_arith.specs.Names.{Table, Assignment, to, assigned}
use Rattle.sh_arith.specs.Value.{Ended, value, stopped, Cause, no_number, is_read_only, tried}
use Rattle.sh_arith.specs.Exec.{Run, run, Moved, on, halted}
use Rattle.sh_arith.specs.Answers.{Seen, told_by}

-- Whatever may come from the later state on, may come from the earlier one on.
pub record Passes {S H : Type 0} (seen : Seen S H) (old new : S) : Type 0 where
  pub gets : (u : S) (h : H) → seen.get_halts new u h → seen.get_halts old u h
  pub unmade : (u : S) (x : List ℕ) (v : ℤ) (h : H) → seen.unmade_halts new u x v h → seen.unmade_halts old u x v h
  pub made : (u : S) (x : List ℕ) (v : ℤ) (h : H) → seen.made_halts new u x v h → seen.made_halts old u x v h

-- a name was read, which gives e in the table
abbrev pub ReadSays : {H S : Type 0} → Seen S H → Result ℤ (ArithErr H) → Ended → S → S → Table → Type 0
ReadSays seen (Ok v) e old new w = e ≡ value v w
ReadSays seen (Err (err.Halt h)) e old new w = Unit {0}
ReadSays seen (Err (err.Bad p)) e old new w = e ≡ stopped (no_number p) w
ReadSays seen (Err err.NoMemory) e old new w = ⊥
ReadSays seen (Err err.DivideByZero) e old new w = ⊥
ReadSays seen (Err err.BadShift) e old new w = ⊥

-- a halt in a `set`
pub data SetHalts {S H : Type 0} (seen : Seen S H) (x : List ℕ) (v : ℤ) (old new : S) (w : Table) (h : H) : Table → Type 0 where
  unmade : seen.unmade_halts old new x v h → SetHalts seen x v old new w h w
  made : seen.made_halts old new x v h → w.read_only x ≡ false → SetHalts seen x v old new w h (assigned x v w)

-- a number was to be assigned, which gives e from the table w
abbrev pub StoreSays : {H S : Type 0} → Seen S H → Result ℤ (ArithErr H) → List ℕ → ℤ → Ended → S → S → Table → Table → Type 0
StoreSays seen (Ok r) x v e old new w w' = e ≡ value r w'
StoreSays seen (Err (err.Halt h)) x v e old new w w' = SetHalts seen x v old new w h w'
StoreSays seen (Err (err.Bad p)) x v e old new w w' = e ≡ stopped (is_read_only p x v) w'
StoreSays seen (Err err.NoMemory) x v e old new w w' = ⊥
StoreSays seen (Err err.DivideByZero) x v e old new w w' = ⊥
StoreSays seen (Err err.BadShift) x v e old new w w' = ⊥

-- the assignments that were made or tried
abbrev pub tried_by : Moved → List Assignment
tried_by (on r w) = w.made
tried_by (halted c w) = tried (stopped c w)

-- the instruction halts for this cause
pub record StopsAt {H : Type 0} (m : Moved) (w : Table) (x : ArithErr H) : Type 0 where
  pub cause : Cause
  pub stopped : m ≡ halted cause w
  pub told : told_by cause ≡ x

pub data HaltsAt {S H : Type 0} (seen : Seen S H) (m : Moved) (old new : S) (w : Table) (h : H) : Table → Type 0 where
  at_get : seen.get_halts old new h → HaltsAt seen m old new w h w
  at_unmade : (x : List ℕ) (v : ℤ) → tried_by m ≡ w.made ++ to x v ∷ [] → seen.unmade_halts old new x v h → HaltsAt seen m old new w h w
  at_made : (x : List ℕ) (v : ℤ) (r : Run) → m ≡ on r (assigned x v w) → seen.made_halts old new x v h → HaltsAt seen m old new w h (assigned x v w)

-- the table is as before, or as the instruction leaves it
pub data Between (m : Moved) (w : Table) : Table → Type 0 where
  not_yet : Between m w w
  already : {w' : Table} (r : Run) → m ≡ on r w' → Between m w w'

-- an instruction was done, or was not
abbrev pub MoveSays : {H S : Type 0} → Seen S H → Result (Option ℕ) (ArithErr H) → List ℤ → Moved → S → S → Table → Table → Type 0
MoveSays seen (Ok o) vs m old new w w' = m ≡ on (run o vs) w'
MoveSays seen (Err (err.Halt h)) vs m old new w w' = HaltsAt seen m old new w h w'
MoveSays seen (Err err.NoMemory) vs m old new w w' = Between m w w'
MoveSays {H} seen (Err (err.Bad p)) vs m old new w w' = StopsAt {H = H} m w' (err.Bad p)
MoveSays {H} seen (Err err.DivideByZero) vs m old new w w' = StopsAt {H = H} m w' err.DivideByZero
MoveSays {H} seen (Err err.BadShift) vs m old new w w' = StopsAt {H = H} m w' err.BadShift
