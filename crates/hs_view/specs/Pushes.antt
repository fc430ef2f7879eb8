-- The pushes among effects that still stand.
use Rattle.std.specs.Prelude.{ℕ, ◌+◌, ◌-◌, Bool, true, false, not, min, List, [], ◌∷◌, nat_lt, reverse}
use Rattle.hs_world.specs.World.{is_pushed}
use Rattle.hs_world.specs.declared.effect.Effect.{Effect}
use Rattle.hs_world.specs.declared.effect.Effect.TheVariants.{PushShell, PopShell, PushInput, PopInput, PushRoutes, PopRoutes}
use Rattle.hs_view.specs.declared.pushes.Mark.{Mark}
use Rattle.hs_view.specs.declared.pushes.Mark.TheVariants as mark
use Rattle.hs_view.specs.declared.pushes.Pushes.{Pushes}

pub record Standing : Type 0 where
  -- the subshell environments, the innermost first: how many texts of standard input stood where each began
  pub shells : List ℕ
  -- how many texts of standard input
  pub inputs : ℕ
  -- how many tables of routes
  pub routes : ℕ

abbrev pub none_standing : Standing
none_standing = record { shells = []; inputs = 0; routes = 0 }

-- An environment that ends takes the texts of standard input with it that came in it.
abbrev pub without_shell : List ℕ → Standing → Standing
without_shell [] s = s
without_shell (n ∷ ns) s = record s { shells = ns; inputs = min n s.inputs }

abbrev pub standing_step : Effect → Standing → Standing
standing_step PushShell s = record s { shells = s.inputs ∷ s.shells }
standing_step PopShell s = without_shell s.shells s
standing_step (PushInput text) s = record s { inputs = s.inputs + 1 }
standing_step PopInput s = record s { inputs = s.inputs - 1 }
standing_step (PushRoutes routes) s = record s { routes = s.routes + 1 }
standing_step PopRoutes s = record s { routes = s.routes - 1 }
standing_step _ s = s

abbrev pub standing_all : List Effect → Standing → Standing
standing_all [] s = s
standing_all (e ∷ es) s = standing_all es (standing_step e s)

abbrev pub standing : List Effect → Standing
standing es = standing_all es none_standing

-- A pop undoes what stands; any other effect undoes no push.
abbrev pub is_standing : Effect → Standing → Bool
is_standing PopShell s = is_pushed s.shells
is_standing PopInput s = nat_lt 0 s.inputs
is_standing PopRoutes s = nat_lt 0 s.routes
is_standing _ s = true

-- whether a pop has its push among these effects
abbrev pub has_push : Effect → List Effect → Bool
has_push e es = is_standing e (standing es)

-- Of a pop no more is asked, where the base does not write.
abbrev pub is_own_pop : Effect → Bool → Bool
is_own_pop PopShell writes = not writes
is_own_pop PopInput writes = not writes
is_own_pop PopRoutes writes = not writes
is_own_pop _ writes = false

-- ---- as the code counts them

abbrev pub mark_of : Effect → Mark
mark_of PushShell = mark.PushShell
mark_of PopShell = mark.PopShell
mark_of (PushInput text) = mark.PushInput
mark_of PopInput = mark.PopInput
mark_of (PushRoutes routes) = mark.PushRoutes
mark_of PopRoutes = mark.PopRoutes
mark_of _ = mark.Other

abbrev pub marked_step : Mark → Standing → Standing
marked_step mark.PushShell s = record s { shells = s.inputs ∷ s.shells }
marked_step mark.PopShell s = without_shell s.shells s
marked_step mark.PushInput s = record s { inputs = s.inputs + 1 }
marked_step mark.PopInput s = record s { inputs = s.inputs - 1 }
marked_step mark.PushRoutes s = record s { routes = s.routes + 1 }
marked_step mark.PopRoutes s = record s { routes = s.routes - 1 }
marked_step mark.Other s = s

abbrev pub counted : Pushes → Standing
counted p = record { shells = reverse p.shells.items; inputs = p.inputs; routes = p.routes }
