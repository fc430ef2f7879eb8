-- The statuses of a run, and the lines that say how it ended.
use Rattle.std.specs.Prelude.{◌≡◌, ℕ, List, [], ◌∷◌, ◌++◌, Option, codes, decimal}
use Rattle.hs_outside.specs.Streams.{appended}
use Rattle.hs_view.specs.declared.halt.SpentKind.{SpentKind}
use Rattle.hs_view.specs.declared.halt.SpentKind.TheVariants.{Turns, Bytes, Frames, Tree}
use Rattle.hs_drive.specs.declared.ending.Ending.{Ending}
use Rattle.hs_drive.specs.declared.ending.Ending.TheVariants.{Done, Syntax, Unbuilt, OutFault, HostFault, Spent, NoMemory}

abbrev pub status_of : Ending → ℕ
status_of (Done status) = status
status_of (Syntax line fault) = 2
status_of OutFault = 121
status_of HostFault = 122
status_of Unbuilt = 123
status_of (Spent kind) = 124
status_of NoMemory = 125

abbrev pub kind_name : SpentKind → List ℕ
kind_name Turns = codes "turns"
kind_name Bytes = codes "bytes"
kind_name Frames = codes "frames"
kind_name Tree = codes "tree"

abbrev pub syntax_line_of : ℕ → List ℕ
syntax_line_of line = codes "hs: line " ++ decimal line ++ codes ": syntax error\n"

-- the lines without a number
abbrev pub fixed_line_of : Ending → List ℕ
fixed_line_of (Done status) = []
fixed_line_of (Syntax line fault) = []
fixed_line_of OutFault = codes "hs: output failed" ++ 10 ∷ []
fixed_line_of HostFault = codes "hs: tree failed" ++ 10 ∷ []
fixed_line_of Unbuilt = codes "hs: not built yet" ++ 10 ∷ []
fixed_line_of (Spent kind) = codes "hs: budget spent: " ++ kind_name kind ++ 10 ∷ []
fixed_line_of NoMemory = codes "hs: out of memory" ++ 10 ∷ []

abbrev pub line_of : Ending → List ℕ
line_of (Syntax line fault) = syntax_line_of line
line_of ending = fixed_line_of ending

-- Of the line a front went out: all of it, unless its write failed or there was no memory for it.
pub record IsTold (line : List ℕ) (old new : Option (List ℕ)) : Type 0 where
  pub front : List ℕ
  pub rest : List ℕ
  pub whole : line ≡ front ++ rest
  pub went : new ≡ appended old front
