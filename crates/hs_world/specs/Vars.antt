-- Variables, functions and texts that descriptors read.
use Rattle.std.specs.Prelude.{ℕ, List, Bool, Option, refl}
use Rattle.std.specs.Ordering.{nat_cmp}
use Rattle.std.specs.Coded.{Coded, code_by, coded×, coded_ℕ, coded_bool, coded_option}
use Rattle.std.specs.FinMap.{FinMap, code}
use Rattle.hs_world.specs.Names.{name_cmp, text_code}
use Rattle.hs_world.specs.declared.var.Var.{Var}

-- the variables by name
abbrev pub VarMap : Type 0
VarMap = FinMap name_cmp Var

-- the functions by name: each body has a number in the script
abbrev pub FuncMap : Type 0
FuncMap = FinMap name_cmp ℕ

-- the texts that the descriptors 3 to 9 read
abbrev pub KeptMap : Type 0
KeptMap = FinMap nat_cmp (List ℕ)

abbrev pub var_code : Coded Var
var_code =
    code_by (Option (List ℕ) × (Bool × Bool)) (coded× (coded_option text_code) (coded× coded_bool coded_bool))
    (λ v. (v.value, (v.exported, v.readonly)))
    (λ p. record { value = p.0; exported = p.1.0; readonly = p.1.1 })
    (λ _. refl)

abbrev pub vars_code : Coded VarMap
vars_code = code text_code var_code

abbrev pub funcs_code : Coded FuncMap
funcs_code = code text_code coded_ℕ

abbrev pub kept_code : Coded KeptMap
kept_code = code coded_ℕ text_code
