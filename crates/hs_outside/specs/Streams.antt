-- What a source gives and a sink takes. Where an object doesn't tell what it holds, nothing is said.
use Rattle.std.specs.Prelude.{◌≡◌, ℕ, ◌<◌, ◌≤◌, Bool, true, List, [], ◌∷◌, ◌++◌, length, take, Option, Some, None, Result, Ok, Err}
use Rattle.hs_outside.specs.declared.outside.Failed.{Failed}

-- with more bytes at the end
abbrev pub appended : Option (List ℕ) → List ℕ → Option (List ℕ)
appended None more = None
appended (Some bytes) more = Some (bytes ++ more)

-- with bytes put in front
abbrev pub prepended : List ℕ → Option (List ℕ) → Option (List ℕ)
prepended bytes None = None
prepended bytes (Some more) = Some (bytes ++ more)

-- the bytes of the piece that a sink took
abbrev pub taken : Result ℕ Failed → List ℕ → List ℕ
taken (Ok n) piece = take n piece
taken (Err e) piece = []

abbrev pub NotEmpty : List ℕ → Type 0
NotEmpty [] = ⊥
NotEmpty (b ∷ bs) = Unit {0}

-- A front of the piece went out, and the rest did not.
pub record IsCut (old new : Option (List ℕ)) (piece : List ℕ) : Type 0 where
  pub front : List ℕ
  pub rest : List ℕ
  pub whole : piece ≡ front ++ rest
  pub unsent : NotEmpty rest
  pub went : new ≡ appended old front

-- the bytes that a source gave
abbrev pub given : Result (Option (List ℕ)) Failed → List ℕ
given (Ok (Some bytes)) = bytes
given result = []

-- Some bytes, at most `max`, or none where nothing is left.
abbrev pub Gives : ℕ → Option (List ℕ) → Option (List ℕ) → Type 0
Gives max (Some bytes) left = (0 < length bytes) × (length bytes ≤ max)
Gives max None None = Unit {0}
Gives max None (Some left) = left ≡ []

-- whether a source has ended: it has once it was asked and gave nothing
abbrev pub ended_by : Result (Option (List ℕ)) Failed → Bool → Bool
ended_by (Ok None) before = true
ended_by result before = before
