-- The state after an assignment.
use Rattle.std.proofs.Common.{◌≡◌, ℕ, ℤ, Bool, true, false, cond, List, [], refl, sym, ap, ◌∙◌}
use Rattle.std.specs.Prelude.{Option, Some, if◌then◌else◌}
use Rattle.std.specs.FinMap.{get, get-insert}
use Rattle.std.specs.Fmt.{signed_decimal}
use Rattle.std.specs.Str.{bytes_eq}
use Rattle.std.proofs.lemmas.Cmp.{nat_list_cmp_total}
use Rattle.std.proofs.lemmas.Map.Text.{is_eq-slice_cmp}
use Rattle.std.proofs.lemmas.Slice.Eq.{bytes_eq-Decides}
use Rattle.hs_world.specs.World.{WorldData, Apply}
use Rattle.hs_world.specs.declared.effect.Effect.TheVariants.{SetVar}
use Rattle.hs_world.specs.declared.var.Var.{Var}
use Rattle.sh_arith.specs.Names.{Table, assigned, to}
use Rattle.sh_sum.specs.Sums.{assigned_var, is_exported, is_readonly, set_of, table_of, value_in}

abbrev pub after : WorldData → List ℕ → ℤ → WorldData
after u x n = Apply (set_of u (to x n)) u

-- the table without what was made
abbrev pub unmade : Table → Table
unmade w = record w { made = [] }

var_after : (u : WorldData) (x : List ℕ) (n : ℤ) (y : List ℕ) → get (after u x n).vars y ≡ cond (bytes_eq y x) (Some (assigned_var (get u.vars x) n)) (get u.vars y)
var_after u x n y = get-insert nat_list_cmp_total u.vars x (assigned_var (get u.vars x) n) y ∙ ap (λ (b : Bool). cond b (Some (assigned_var (get u.vars x) n)) (get u.vars y)) (is_eq-slice_cmp y x)

value_case : (b : Bool) (n : ℤ) (here other : Option Var) → value_in (cond b (Some (assigned_var here n)) other) ≡ (if b then Some (signed_decimal n) else value_in other)
value_case true n here other = refl
value_case false n here other = refl

values_after : (u : WorldData) (x : List ℕ) (n : ℤ) (y : List ℕ) → value_in (get (after u x n).vars y) ≡ (if bytes_eq y x then Some (signed_decimal n) else value_in (get u.vars y))
values_after u x n y = ap value_in (var_after u x n y) ∙ value_case (bytes_eq y x) n (get u.vars x) (get u.vars y)

-- a mark of each variable stays
marks : (mark : Option Var → Bool) (u : WorldData) (x : List ℕ) (n : ℤ) (y : List ℕ) → mark (Some (assigned_var (get u.vars x) n)) ≡ mark (get u.vars x) → mark (get (after u x n).vars y) ≡ mark (get u.vars y)
marks mark u x n y same = ap mark (var_after u x n y) ∙ by (bytes_eq y x) refl
  where
    by : (b : Bool) → bytes_eq y x ≡ b → mark (cond (bytes_eq y x) (Some (assigned_var (get u.vars x) n)) (get u.vars y)) ≡ mark (get u.vars y)
    by true e =
        ap (λ (c : Bool). mark (cond c (Some (assigned_var (get u.vars x) n)) (get u.vars y))) e
        ∙ same ∙ ap (λ (z : List ℕ). mark (get u.vars z)) (sym ((bytes_eq-Decides y x).0 e))
    by false e = ap (λ (c : Bool). mark (cond c (Some (assigned_var (get u.vars x) n)) (get u.vars y))) e

readonly_after : (u : WorldData) (x : List ℕ) (n : ℤ) (y : List ℕ) → is_readonly (get (after u x n).vars y) ≡ is_readonly (get u.vars y)
readonly_after u x n y = marks is_readonly u x n y refl

exported_after : (u : WorldData) (x : List ℕ) (n : ℤ) (y : List ℕ) → is_exported (get (after u x n).vars y) ≡ is_exported (get u.vars y)
exported_after u x n y = marks is_exported u x n y refl

pub table_after : (u : WorldData) (x : List ℕ) (n : ℤ) → table_of (after u x n) ≡ unmade (assigned x n (table_of u))
table_after u x n = λ i. record { value = λ y. values_after u x n y i; read_only = λ y. readonly_after u x n y i; made = [] }

pub sets_after : (u : WorldData) (x : List ℕ) (n : ℤ) → set_of (after u x n) ≡ set_of u
sets_after u x n = λ i a. SetVar a.name (record { value = Some (signed_decimal a.value); exported = exported_after u x n a.name i; readonly = readonly_after u x n a.name i })
