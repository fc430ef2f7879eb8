-- Assignments of a simple command (POSIX.1-2017, XCU 2.9.1).
use Rattle.std.specs.Prelude.{ℕ, Bool, false, ◌||◌, List, [], ◌∷◌, map, codes, Option, Some, None, Ok, Err, if◌then◌else◌}
use Rattle.std.specs.FinMap.{get}
use Rattle.hs_world.specs.World.{WorldData}
use Rattle.hs_world.specs.declared.effect.Effect.{Effect}
use Rattle.hs_world.specs.declared.effect.Effect.TheVariants.{SetVar, UnsetVar}
use Rattle.hs_world.specs.declared.var.Var.{Var}
use Rattle.hs_view.specs.Acts.{only}
use Rattle.hs_view.specs.Steps.{Done, nothing}
use Rattle.sh_split.specs.Removal.{bytes_of}
use Rattle.sh_syntax.specs.declared.tree.Word.{Word}
use Rattle.sh_param.specs.Assigns.{is_exported, is_readonly}
use Rattle.sh_param.specs.Messages.{message}
use Rattle.sh_param.specs.declared.mode.Context.TheVariants as context
use Rattle.sh_leaf.specs.Expanding.{Came, came_then, fields_of}

-- ---- one assignment

-- A value is one field, since it is not split.
abbrev pub first_text : List (List (ℕ × Bool)) → List ℕ
first_text [] = []
first_text (f ∷ fs) = bytes_of f

abbrev pub value_told : List (List (ℕ × Bool)) → WorldData → Done (Came (List ℕ))
value_told fields w = nothing (Ok (first_text fields)) w

-- where `$?` gives this status
abbrev pub value_of : ℕ → Word → WorldData → Done (Came (List ℕ))
value_of status word w = came_then (fields_of (word ∷ []) context.Assign status w) value_told w

-- The variable gets the text, is exported where it was or where the assignment exports, and is not read only.
abbrev pub var_made : Bool → Option Var → List ℕ → Var
var_made exports before text = record { value = Some text; exported = exports || is_exported before; readonly = false }

-- A variable that is read only keeps its value. The answer is what stood before.
abbrev pub set_over : Bool → Option Var → List ℕ → List ℕ → WorldData → Done (Came (Option Var))
set_over exports before name text w = if is_readonly before then nothing (Err (message name (codes "is read only"))) w else only (SetVar name (var_made exports before text)) (Ok before) w

abbrev pub set_var : Bool → List ℕ → List ℕ → WorldData → Done (Came (Option Var))
set_var exports name text w = set_over exports (get w.vars name) name text w

abbrev pub assigned : Bool → ℕ → List ℕ × Word → WorldData → Done (Came (Option Var))
assigned exports status a w = came_then (value_of status a.1 w) (set_var exports a.0) w

-- ---- one after another

-- which variables were assigned, the last one first, each with what it was before
abbrev pub Befores : Type 0
Befores = List (List ℕ × Option Var)

abbrev pub all_assigned : Bool → ℕ → List (List ℕ × Word) → Befores → WorldData → Done (Came Befores)
all_assigned exports status [] befores w = nothing (Ok befores) w
all_assigned exports status (a ∷ more) befores w = came_then (assigned exports status a w) (λ before. all_assigned exports status more ((a.0, before) ∷ befores)) w

-- ---- and back

abbrev pub set_back : List ℕ × Option Var → Effect
set_back b = elim b.1 [ None ↦ UnsetVar b.0 | Some var ↦ SetVar b.0 var ]

-- the last one first, so that a variable that was assigned twice is what it was at first
abbrev pub given_back : Befores → List Effect
given_back befores = map set_back befores
