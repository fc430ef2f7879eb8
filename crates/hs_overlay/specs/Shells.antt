-- Subshell environments that effects began.
use Rattle.std.specs.Prelude.{◌≡◌, ℕ, ◌+◌, Bool, true, false, not, ◌&&◌, ◌||◌, List, [], ◌∷◌, Option, Some, None, length, ltb, nat_eq, unwrap_or}
use Rattle.hs_world.specs.Tables.{are_routes}
use Rattle.hs_world.specs.World.{WorldData}
use Rattle.hs_world.specs.declared.route.Route.{Route}
use Rattle.hs_world.specs.declared.shell.Shell.{Shell}
use Rattle.hs_overlay.specs.Routing.{MayStand}
use Rattle.hs_overlay.specs.Scope.{ScopeOver}
use Rattle.hs_overlay.specs.declared.shells.Saved.{Saved}

abbrev pub held_over : Option (Option (List ℕ)) → Bool → Option (List ℕ) → Option (Option (List ℕ))
held_over (Some old) _ top = Some old
held_over None true top = Some top
held_over None false top = None

abbrev pub noted_over : List Saved → ℕ → Option (List ℕ) → List Saved
noted_over [] inputs top = []
noted_over (s ∷ ss) inputs top = record s { input = held_over s.input (nat_eq s.inputs inputs) top } ∷ ss

abbrev pub lowered_over : List Saved → ℕ → List Saved
lowered_over [] tables = []
lowered_over (s ∷ ss) tables = record s { lower = s.lower || ltb tables s.tables } ∷ lowered_over ss tables

-- whether the routes of the innermost table go back
abbrev pub goes_back : Saved → ℕ → Bool
goes_back s tables = nat_eq s.tables tables && not s.lower

abbrev pub held_in : Option (Option (List ℕ)) → List ℕ → Option (List ℕ)
held_in None base = None
held_in (Some old) base = Some (unwrap_or old base)

-- An environment of a state is so, over a base's state.
pub record ShellOver (s : Saved) (b : WorldData) (t : Shell) : Type 0 where
  pub scope : ScopeOver s.scope b t.vars t.funcs t.params t.cwd t.opts t.kept
  pub routes : t.routes ≡ unwrap_or s.routes b.table.routes
  pub tables : t.tables ≡ s.tables + length b.tables
  pub lower : t.lower ≡ s.lower
  pub inputs : t.inputs ≡ s.inputs + length b.inputs
  pub input : t.input ≡ held_in s.input b.input
  -- the base's own text and table are held at the depth at which they stand
  pub own_input : s.input ≡ Some None → s.inputs ≡ 0
  pub own_routes : s.routes ≡ None → s.tables ≡ 0
  pub fit : (rs : List Route) → s.routes ≡ Some rs → are_routes rs ≡ true
  pub stand : (rs : List Route) → s.routes ≡ Some rs → s.tables ≡ 0 → MayStand b rs

abbrev pub ShellsOver : List Saved → WorldData → List Shell → Type 0
ShellsOver [] b ts = Unit {0}
ShellsOver (s ∷ ss) b [] = true ≡ false
ShellsOver (s ∷ ss) b (t ∷ ts) = ShellOver s b t × ShellsOver ss b ts
