-- Arithmetic expansion in a state of the shell (POSIX.1-2017, XCU 2.6.4).
use Rattle.std.specs.Prelude.{◌≡◌, ◌↔◌, ℕ, ℤ, Bool, false, List, [], map, Option, Some, None}
use Rattle.std.specs.FinMap.{get}
use Rattle.std.specs.Fmt.{signed_decimal}
use Rattle.hs_world.specs.World.{WorldData}
use Rattle.hs_world.specs.declared.effect.Effect.{Effect}
use Rattle.hs_world.specs.declared.effect.Effect.TheVariants.{SetVar}
use Rattle.hs_world.specs.declared.var.Var.{Var}
use Rattle.hs_view.specs.Steps.{Done, nothing}
use Rattle.sh_arith.specs.Grammar.{Tree, Spells}
use Rattle.sh_arith.specs.Names.{Assignment, Table}
use Rattle.sh_arith.specs.Trees.{tree_of}
use Rattle.sh_arith.specs.Value.{Cause, Ended, Fault, bad_shift, by_zero, evaluate, fault, is_read_only, no_number, stopped, value}
use Rattle.sh_sum.specs.declared.sum.Sum.{Sum}
use Rattle.sh_sum.specs.declared.sum.Sum.TheVariants as answer

-- ---- variables as names

-- one that is not set, or is marked alone, has no value
abbrev pub value_in : Option Var → Option (List ℕ)
value_in None = None
value_in (Some var) = var.value

abbrev pub is_exported : Option Var → Bool
is_exported None = false
is_exported (Some var) = var.exported

abbrev pub is_readonly : Option Var → Bool
is_readonly None = false
is_readonly (Some var) = var.readonly

-- before any assignment
abbrev pub table_of : WorldData → Table
table_of u = record { value = λ x. value_in (get u.vars x); read_only = λ x. is_readonly (get u.vars x); made = [] }

-- An assignment gives a variable the number in decimal. Its marks stay.
abbrev pub assigned_var : Option Var → ℤ → Var
assigned_var var n = record { value = Some (signed_decimal n); exported = is_exported var; readonly = is_readonly var }

abbrev pub set_of : WorldData → Assignment → Effect
set_of u a = SetVar a.name (assigned_var (get u.vars a.name) a.value)

-- ---- what an expression does, and what it comes to

abbrev pub fault_told : Fault → Sum
fault_told by_zero = answer.DivisionByZero
fault_told bad_shift = answer.BadShift

abbrev pub told : Cause → Sum
told (fault f) = fault_told f
told (no_number p) = answer.Bad
told (is_read_only p x n) = answer.Bad

-- The assignments are made in the order of evaluation, those before an error too.
abbrev pub summed : WorldData → Ended → Done Sum
summed u (value n w) = record { effects = map (set_of u) w.made; answer = answer.Number n }
summed u (stopped c w) = record { effects = map (set_of u) w.made; answer = told c }

-- Where the text is no expression, nothing is done.
abbrev pub sum_of : Option Tree → WorldData → Done Sum
sum_of None u = nothing answer.Bad u
sum_of (Some t) u = summed u (evaluate t (table_of u))

abbrev pub sum_done : List ℕ → WorldData → Done Sum
sum_done text u = sum_of (tree_of text) u

-- The tree of a text is the one that the grammar derives.
abbrev pub AreTrees : Type 0
AreTrees = (t : Tree) (text : List ℕ) → Spells t text ↔ (tree_of text ≡ Some t)
