-- `basename` and `dirname` (POSIX.1-2017, XCU, `basename` and `dirname`).
use Rattle.std.specs.Prelude.{ℕ, Bool, List, [], ◌∷◌, ◌++◌, Result, Ok, Err, codes}
use Rattle.hs_world.specs.World.{WorldData}
use Rattle.hs_world.specs.declared.effect.Fd.TheVariants.{One}
use Rattle.hs_view.specs.Steps.{Done}
use Rattle.util_common.specs.Operands.{emitted, refused}
use Rattle.util_common.specs.Words.{words_of}
use Rattle.util_common.specs.declared.messages.Why.{Why}
use Rattle.util_common.specs.declared.messages.Why.TheVariants.{ExtraOperand, MissingOperand}
use Rattle.util_opts.specs.declared.options.Options.{Options}
use Rattle.util_print.specs.Naming.{folder_of, name_of, without_suffix}

-- a line that is written, or why there is none
abbrev pub Line : Type 0
Line = Result (List ℕ) Why

abbrev pub basename_of : List (List ℕ) → Line
basename_of [] = Err MissingOperand
basename_of (path ∷ []) = Ok (name_of path ++ 10 ∷ [])
basename_of (path ∷ suffix ∷ []) = Ok (without_suffix suffix (name_of path) ++ 10 ∷ [])
basename_of (a ∷ b ∷ c ∷ r) = Err ExtraOperand

abbrev pub dirname_of : List (List ℕ) → Line
dirname_of [] = Err MissingOperand
dirname_of (path ∷ []) = Ok (folder_of path ++ 10 ∷ [])
dirname_of (a ∷ b ∷ r) = Err ExtraOperand

abbrev pub line_written : List ℕ → Line → WorldData → Done ℕ
line_written utility (Ok line) w = emitted One line 0 w
line_written utility (Err why) w = refused utility why w

-- They have no options.
abbrev pub no_options : List (ℕ × Bool)
no_options = []

abbrev pub basename_by : Result Options Why → WorldData → Done ℕ
basename_by (Ok options) w = line_written (codes "basename") (basename_of options.operands) w
basename_by (Err why) w = refused (codes "basename") why w

abbrev pub basename : List (List ℕ) → WorldData → Done ℕ
basename args w = basename_by (words_of no_options args) w

abbrev pub dirname_by : Result Options Why → WorldData → Done ℕ
dirname_by (Ok options) w = line_written (codes "dirname") (dirname_of options.operands) w
dirname_by (Err why) w = refused (codes "dirname") why w

abbrev pub dirname : List (List ℕ) → WorldData → Done ℕ
dirname args w = dirname_by (words_of no_options args) w
