-- Where a script begins: the variables that it finds (POSIX.1-2017, XCU 2.5.3 and XBD 8.1).
use Rattle.std.specs.Prelude.{ℕ, Bool, true, false, List, [], ◌∷◌, codes, Some, if◌then◌else◌}
use Rattle.hs_world.specs.Files.{Files}
use Rattle.hs_world.specs.World.{WorldData, new_world}
use Rattle.hs_world.specs.declared.var.Var.{Var}
use Rattle.sh_lexer.specs.Bytes.{is_name}

-- names with their values, as the program is handed them
abbrev pub Environ : Type 0
Environ = List (List ℕ × List ℕ)

abbrev pub valued : Bool → List ℕ → Var
valued exported text = record { value = Some text; exported = exported; readonly = false }

-- Entries whose names are no names of variables are dropped.
abbrev pub inherited : Environ → List (List ℕ × Var)
inherited [] = []
inherited (e ∷ es) = if is_name e.0 then (e.0, valued true e.1) ∷ inherited es else inherited es

-- IFS is a space, a tab and a newline, and PWD the current folder, whatever the environment says. Of a name that stands twice the first
-- counts.
abbrev pub first_vars : Environ → List (List ℕ × Var)
first_vars env = (codes "IFS", valued false (32 ∷ 9 ∷ 10 ∷ [])) ∷ (codes "PWD", valued false (codes "/")) ∷ inherited env

abbrev pub default_turns : ℕ
default_turns = 1000000

-- over the loaded files
abbrev pub start : Environ → Files → WorldData
start env files = new_world files (first_vars env) (codes "hs") [] [] (record { bytes = 16777216; turns = default_turns })
