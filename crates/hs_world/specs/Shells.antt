-- What a subshell environment gives back when it ends (POSIX.1-2017, XCU 2.12).
use Rattle.std.specs.Prelude.{ℕ, zero, suc, ◌-◌, ◌<◌, List, [], ◌∷◌, Bool, true, false, not, ◌&&◌, ◌||◌, length, drop, leb, ltb, nat_eq, Option, Some, None, if◌then◌else◌}
use Rattle.std.specs.Ordering.{nat_cmp}
use Rattle.std.specs.FinMap.{FinMap, code}
use Rattle.std.specs.Coded.{Coded, code_by, coded×, coded_ℕ, coded_bool, coded_option}
use Rattle.hs_world.specs.Names.{name_cmp, text_code}
use Rattle.hs_world.specs.Paths.{Path}
use Rattle.hs_world.specs.Vars.{VarMap, FuncMap, KeptMap}
use Rattle.hs_world.specs.declared.opts.Opts.{Opts}
use Rattle.hs_world.specs.declared.route.RouteTable.{RouteTable}
use Rattle.hs_world.specs.declared.shell.Shell.{Shell}

-- The innermost environment holds the text of standard input that is replaced to its end, the first time at its depth.
abbrev pub held : Option (List ℕ) → Bool → List ℕ → Option (List ℕ)
held (Some old) _ input = Some old
held None true input = Some input
held None false input = None

abbrev pub noted : List Shell → ℕ → List ℕ → List Shell
noted [] inputs input = []
noted (s ∷ ss) inputs input = record s { input = held s.input (nat_eq s.inputs inputs) input } ∷ ss

-- so many tables stand now below the innermost one
abbrev pub lowered : List Shell → ℕ → List Shell
lowered [] tables = []
lowered (s ∷ ss) tables = record s { lower = s.lower || ltb tables s.tables } ∷ lowered ss tables

-- ---- what the innermost environment gives back; without one all stays as it is

abbrev pub without_top : {A : Type 0} → List A → List A
without_top [] = []
without_top (_ ∷ xs) = xs

abbrev pub vars_back : List Shell → VarMap → VarMap
vars_back [] now = now
vars_back (s ∷ _) now = s.vars

abbrev pub funcs_back : List Shell → FuncMap → FuncMap
funcs_back [] now = now
funcs_back (s ∷ _) now = s.funcs

abbrev pub params_back : List Shell → List (List ℕ) → List (List ℕ)
params_back [] now = now
params_back (s ∷ _) now = s.params

abbrev pub cwd_back : List Shell → Path → Path
cwd_back [] now = now
cwd_back (s ∷ _) now = s.cwd

abbrev pub opts_back : List Shell → Opts → Opts
opts_back [] now = now
opts_back (s ∷ _) now = s.opts

abbrev pub kept_back : List Shell → KeptMap → KeptMap
kept_back [] now = now
kept_back (s ∷ _) now = s.kept

-- The routes go back only where as many tables stand as at its begin, and never fewer have stood. What was captured stays.
abbrev pub table_back : List Shell → ℕ → RouteTable → RouteTable
table_back [] tables now = now
table_back (s ∷ _) tables now = record now { routes = if nat_eq s.tables tables && not s.lower then s.routes else now.routes }

-- the text at a depth below the innermost one
abbrev pub deep : ℕ → List ℕ → List (List ℕ) → List ℕ
deep zero top below = top
deep (suc d) top [] = top
deep (suc d) top (b ∷ bs) = deep d b bs

-- The text that is held goes back only where as many texts stand as at the begin.
abbrev pub returned : Bool → Option (List ℕ) → List ℕ → List ℕ
returned true (Some old) input = old
returned true None input = input
returned false _ input = input

abbrev pub input_back : List Shell → List ℕ → List (List ℕ) → List ℕ
input_back [] input below = input
input_back (s ∷ _) input below = returned (leb s.inputs (length below)) s.input (deep (length below - s.inputs) input below)

-- Texts above those that stood at the begin go; where fewer stand, none is added.
abbrev pub inputs_back : List Shell → List (List ℕ) → List (List ℕ)
inputs_back [] below = below
inputs_back (s ∷ _) below = drop (length below - s.inputs) below
