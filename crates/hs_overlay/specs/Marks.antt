-- Variables, functions and kept texts as effects made them: None for what was unset.
use Rattle.std.specs.Prelude.{ℕ, List, Option}
use Rattle.std.specs.Coded.{Coded, coded_ℕ, coded_option}
use Rattle.std.specs.FinMap.{FinMap, code}
use Rattle.std.specs.Ordering.{nat_cmp}
use Rattle.hs_world.specs.Names.{name_cmp, text_code}
use Rattle.hs_world.specs.Vars.{var_code}
use Rattle.hs_world.specs.declared.var.Var.{Var}

abbrev pub VarsOver : Type 0
VarsOver = FinMap name_cmp (Option Var)

abbrev pub FuncsOver : Type 0
FuncsOver = FinMap name_cmp (Option ℕ)

abbrev pub KeptOver : Type 0
KeptOver = FinMap nat_cmp (Option (List ℕ))

abbrev pub vars_over_code : Coded VarsOver
vars_over_code = code text_code (coded_option var_code)

abbrev pub funcs_over_code : Coded FuncsOver
funcs_over_code = code text_code (coded_option coded_ℕ)

abbrev pub kept_over_code : Coded KeptOver
kept_over_code = code coded_ℕ (coded_option text_code)
