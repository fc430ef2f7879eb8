-- What `evaluate` answers.
use Rattle.std.specs.Prelude.{◌≡◌, ℕ, ℤ, ◌⊎◌, List, ◌∷◌, ◌++◌, Result, Ok, Err}
use Rattle.sh_arith.specs.declared.names.ArithErr.{ArithErr}
use Rattle.sh_arith.specs.declared.names.ArithErr.TheVariants as err
use Rattle.sh_arith.specs.Grammar.{Tree, IsTreeOf, FirstBad, Spells}
use Rattle.sh_arith.specs.Names.{Table, Assignment, to, assigned, Assigns}
use Rattle.sh_arith.specs.Value.{Ended, value, stopped, Cause, fault, no_number, is_read_only, by_zero, bad_shift, evaluate, tried}

-- What a contract sees of names of a type: which tables agree with them, and which halts may come.
pub record Seen (S H : Type 0) : Type 1 where
  pub agrees : S → Table → Type 0
  pub get_halts : S → S → H → Type 0
  pub unmade_halts : S → S → List ℕ → ℤ → H → Type 0
  pub made_halts : S → S → List ℕ → ℤ → H → Type 0

abbrev pub seen_by : {S H : Type 0} → (S → Table → Type 0) → (S → S → H → Type 0) → (S → S → List ℕ → ℤ → H → Type 0) → (S → S → List ℕ → ℤ → H → Type 0) → Seen S H
seen_by a g u m = record { agrees = a; get_halts = g; unmade_halts = u; made_halts = m }

-- how a cause is told
abbrev pub told_by : {H : Type 0} → Cause → ArithErr H
told_by (fault by_zero) = err.DivideByZero
told_by (fault bad_shift) = err.BadShift
told_by (no_number p) = err.Bad p
told_by (is_read_only p x v) = err.Bad p

-- The expression stopped for this cause.
pub record Stops {H : Type 0} (e : Ended) (w : Table) (x : ArithErr H) : Type 0 where
  pub cause : Cause
  pub stopped : e ≡ stopped cause w
  pub told : told_by cause ≡ x

-- The table w' comes from w by the first of the assignments that the expression tries, and `more` are the others.
pub record Partly (e : Ended) (w w' : Table) (more : List Assignment) : Type 0 where
  pub made : List Assignment
  pub after : w' ≡ Assigns made w
  pub tried : tried e ≡ w'.made ++ more

-- A halt came in a `get`, in a `set` that is the expression's next assignment and was left unmade, or in one that was made
-- and is the last one made.
pub data Halts {S H : Type 0} (seen : Seen S H) (e : Ended) (old new : S) (w : Table) (h : H) : Table → Type 0 where
  in_get : {w' : Table} (more : List Assignment) → Partly e w w' more → seen.get_halts old new h → Halts seen e old new w h w'
  unmade : {w' : Table} (x : List ℕ) (v : ℤ) (more : List Assignment) → Partly e w w' (to x v ∷ more) → seen.unmade_halts old new x v h → Halts seen e old new w h w'
  made : (before : Table) (x : List ℕ) (v : ℤ) (more : List Assignment) → Partly e w (assigned x v before) more → seen.made_halts old new x v h →
      Halts seen e old new w h (assigned x v before)

-- What the answer says of an expression that gives e, where the table was w and is w'.
abbrev pub Says : {H S : Type 0} → Seen S H → Result ℤ (ArithErr H) → Ended → S → S → Table → Table → Type 0
Says {H} seen (Ok v) e old new w w' = e ≡ value v w'
Says {H} seen (Err (err.Halt h)) e old new w w' = Halts seen e old new w h w'
Says {H} seen (Err err.NoMemory) e old new w w' = (more : List Assignment) × Partly e w w' more
Says {H} seen (Err (err.Bad p)) e old new w w' = Stops {H = H} e w' (err.Bad p)
Says {H} seen (Err err.DivideByZero) e old new w w' = Stops {H = H} e w' err.DivideByZero
Says {H} seen (Err err.BadShift) e old new w w' = Stops {H = H} e w' err.BadShift

-- Each table that agrees with the names then comes from one that agreed before, by the expression.
abbrev pub Evaluates : {S H : Type 0} → Seen S H → Tree → Result ℤ (ArithErr H) → S → S → Type 0
Evaluates seen t result old new = (w' : Table) → seen.agrees new w' → (w : Table) × seen.agrees old w × Says seen result (evaluate t w) old new w w'

-- a halt is one that may come between the two states
abbrev pub MayCome : {S H : Type 0} → Seen S H → S → S → H → Type 0
MayCome seen old new h = seen.get_halts old new h ⊎ ((x : List ℕ) × (v : ℤ) × (seen.unmade_halts old new x v h ⊎ seen.made_halts old new x v h))

abbrev pub Caused : {S H T : Type 0} → Seen S H → Result T (ArithErr H) → S → S → Type 0
Caused seen (Err (err.Halt h)) old new = MayCome seen old new h
Caused seen result old new = Unit {0}

-- The answer is that of the one expression of the text; or the text is none, and this is told before anything is evaluated.
pub data Answers {S H : Type 0} (seen : Seen S H) (text : List ℕ) (old new : S) : Result ℤ (ArithErr H) → Type 0 where
  evaluated : {result : Result ℤ (ArithErr H)} (t : Tree) → IsTreeOf t text → Evaluates seen t result old new → Caused seen result old new →
      Answers seen text old new result
  no_expression : (p : ℕ) → FirstBad text p → ((t : Tree) → Spells t text → ⊥) → new ≡ old → Answers seen text old new (Err (err.Bad p))
  no_memory : new ≡ old → Answers seen text old new (Err err.NoMemory)
