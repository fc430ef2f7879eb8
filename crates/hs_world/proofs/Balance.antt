-- How many effects were applied, and how many subshell environments and tables of routes stand.
use Rattle.std.proofs.Common.{◌≡◌, ℕ, suc, ◌+◌, List, [], ◌∷◌, Bool, true, false, not, T, subst, length, arith, refl, sym, ap, ◌∙◌}
use Rattle.std.specs.Prelude.{IsTrue}
use Rattle.hs_world.specs.Files.{is_empty_list}
use Rattle.hs_world.specs.Tables.{route_at, take_up, emitted_in, emitted_below}
use Rattle.hs_world.specs.Shells.{lowered, noted, without_top}
use Rattle.hs_world.specs.World.{WorldData, Apply, Applied, is_valid, AllValid}
use Rattle.hs_world.specs.declared.effect.Effect.{Effect}
use Rattle.hs_world.specs.declared.effect.Effect.TheVariants.{PushShell, PopShell, PushRoutes, PopRoutes, ExecInput, Emit, SetStatus}
use Rattle.hs_world.specs.declared.route.Route.{Route}
use Rattle.hs_world.specs.declared.route.Route.TheVariants.{Stream, Same, File, Null, Closed, Capture}
use Rattle.hs_world.specs.declared.route.RouteTable.{RouteTable}
use Rattle.hs_world.specs.declared.shell.Shell.{Shell}

pub count-applied : (es : List Effect) (w : WorldData) → (Applied es w).count ≡ w.count + length es
count-applied [] w = omega arith
count-applied (e ∷ es) w = let rest = count-applied es (Apply e w) in omega (arith, rest)

length_lowered : (ss : List Shell) (n : ℕ) → length (lowered ss n) ≡ length ss
length_lowered [] n = refl
length_lowered (s ∷ ss) n = ap suc (length_lowered ss n)

length_noted : (ss : List Shell) (n : ℕ) (text : List ℕ) → length (noted ss n text) ≡ length ss
length_noted [] n text = refl
length_noted (s ∷ ss) n text = refl

length_emitted : (n : ℕ) (text : List ℕ) (ts : List RouteTable) → length (emitted_in n text ts) ≡ length ts
length_emitted n text [] = refl
length_emitted n text (t ∷ ts) =
    elim (route_at n t.routes) as (λ r. length {A = RouteTable} (elim r [
      | Same m ↦ t ∷ emitted_in m text ts
      | Capture ↦ take_up Capture text t ∷ ts
      | Stream fd ↦ t ∷ ts
      | File p ↦ t ∷ ts
      | Null ↦ t ∷ ts
      | Closed ↦ t ∷ ts
    ]) ≡ suc (length ts)) [
      | Same m ↦ ap suc (length_emitted m text ts)
      | Capture ↦ refl
      | Stream fd ↦ refl
      | File p ↦ refl
      | Null ↦ refl
      | Closed ↦ refl
    ]

length_below : (r : Route) (text : List ℕ) (ts : List RouteTable) → length (emitted_below r text ts) ≡ length ts
length_below (Same m) text ts = length_emitted m text ts
length_below _ text ts = refl

without_one : {A : Type 0} (xs : List A) → not (is_empty_list xs) ≡ true → length (without_top xs) + 1 ≡ length xs + 0
without_one [] h = absurd (subst T (sym h) tt)
without_one (x ∷ xs) h = omega arith

abbrev pub begins_shell : Effect → ℕ
begins_shell PushShell = 1
begins_shell _ = 0

abbrev pub ends_shell : Effect → ℕ
ends_shell PopShell = 1
ends_shell _ = 0

abbrev pub begun_shells : List Effect → ℕ
begun_shells [] = 0
begun_shells (e ∷ es) = begins_shell e + begun_shells es

abbrev pub ended_shells : List Effect → ℕ
ended_shells [] = 0
ended_shells (e ∷ es) = ends_shell e + ended_shells es

shells_step : (e : Effect) (w : WorldData) → IsTrue (is_valid e w) → length (Apply e w).shells + ends_shell e ≡ length w.shells + begins_shell e
shells_step PushShell w h = omega arith
shells_step PopShell w h = without_one w.shells h
shells_step PopRoutes w h = ap (λ n. n + 0) (length_lowered w.shells _)
shells_step (ExecInput text) w h = ap (λ n. n + 0) (length_noted w.shells _ w.input)
shells_step _ w h = refl

-- As many environments stand as stood, and those that began, without those that ended.
pub shells-balance : (es : List Effect) (w : WorldData) → AllValid es w → length (Applied es w).shells + ended_shells es ≡ length w.shells + begun_shells es
shells-balance [] w h = refl
shells-balance (e ∷ es) w h =
    let one = shells_step e w h.0 in
    let rest = shells-balance es (Apply e w) h.1 in
    omega (arith, one, rest)

abbrev pub puts_table : Effect → ℕ
puts_table (PushRoutes routes) = 1
puts_table _ = 0

abbrev pub takes_table : Effect → ℕ
takes_table PopRoutes = 1
takes_table _ = 0

abbrev pub put_tables : List Effect → ℕ
put_tables [] = 0
put_tables (e ∷ es) = puts_table e + put_tables es

abbrev pub taken_tables : List Effect → ℕ
taken_tables [] = 0
taken_tables (e ∷ es) = takes_table e + taken_tables es

tables_step : (e : Effect) (w : WorldData) → IsTrue (is_valid e w) → length (Apply e w).tables + takes_table e ≡ length w.tables + puts_table e
tables_step (PushRoutes routes) w h = omega arith
tables_step PopRoutes w h = without_one w.tables h
tables_step (Emit fd text) w h = ap (λ n. n + 0) (length_below _ text w.tables)
tables_step _ w h = refl

-- The same for tables of routes.
pub tables-balance : (es : List Effect) (w : WorldData) → AllValid es w → length (Applied es w).tables + taken_tables es ≡ length w.tables + put_tables es
tables-balance [] w h = refl
tables-balance (e ∷ es) w h =
    let one = tables_step e w h.0 in
    let rest = tables-balance es (Apply e w) h.1 in
    omega (arith, one, rest)
