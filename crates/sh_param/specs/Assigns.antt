-- The assignment of `${x=w}` (POSIX.1-2017, XCU 2.6.2).
use Rattle.std.specs.Prelude.{ℕ, Bool, false, List, Option, Some, None, if◌then◌else◌}
use Rattle.std.specs.FinMap.{get}
use Rattle.hs_world.specs.World.{WorldData}
use Rattle.hs_world.specs.declared.effect.Effect.TheVariants.{SetVar}
use Rattle.hs_world.specs.declared.var.Var.{Var}
use Rattle.hs_view.specs.Acts.{only}
use Rattle.hs_view.specs.Steps.{Done, nothing}
use Rattle.sh_arith.specs.declared.names.Assigned.{Assigned}
use Rattle.sh_arith.specs.declared.names.Assigned.TheVariants.{Yes, ReadOnly}

abbrev pub is_readonly : Option Var → Bool
is_readonly None = false
is_readonly (Some var) = var.readonly

abbrev pub is_exported : Option Var → Bool
is_exported None = false
is_exported (Some var) = var.exported

-- The variable gets the value, and stays exported where it is.
abbrev pub var_with : Option Var → List ℕ → Var
var_with before text = record { value = Some text; exported = is_exported before; readonly = false }

abbrev pub assigned_over : Option Var → List ℕ → List ℕ → WorldData → Done Assigned
assigned_over before name text w = if is_readonly before then nothing ReadOnly w else only (SetVar name (var_with before text)) Yes w

-- A variable that is read only keeps its value.
abbrev pub assigned : List ℕ → List ℕ → WorldData → Done Assigned
assigned name text w = assigned_over (get w.vars name) name text w
