-- What effects make of a state that was not read.
use Rattle.std.specs.Prelude.{◌≡◌, ℕ, ◌-◌, Bool, true, false, List, [], ◌∷◌, Option, Some, None, length, drop}
use Rattle.std.specs.FinMap.{insert}
use Rattle.hs_world.specs.Tables.{fd_number}
use Rattle.hs_world.specs.World.{is_pushed}
use Rattle.hs_world.specs.declared.effect.Effect.{Effect}
use Rattle.hs_world.specs.declared.effect.Effect.TheVariants.{SetVar, UnsetVar, SetFunc, UnsetFunc, SetParams, SetStatus, SetCwd, SetOpts, Put, Append, MakeDir, Remove, Emit, PushShell, PopShell, PushInput, SetInput, PopInput, PushRoutes, PopRoutes, SetRoutes, SetKept, ExecInput, Replied}
use Rattle.hs_world.specs.declared.entry.Entry.TheVariants.{File, Dir}
use Rattle.hs_world.specs.declared.route.Route.{Route}
use Rattle.hs_overlay.specs.Files.{no_files, with_entry, without_entry, with_more, with_more_at, left_files}
use Rattle.hs_overlay.specs.declared.files.Files.{Files}
use Rattle.hs_overlay.specs.Inputs.{InputsData, no_inputs, input_of, with_input, inputs_returned}
use Rattle.hs_overlay.specs.Routing.{RoutingData, no_routing, routes_over, new_table, with_routes, routes_returned, emitted_over, file_over}
use Rattle.hs_overlay.specs.Scope.{no_scope}
use Rattle.hs_overlay.specs.declared.scope.Scope.{Scope}
use Rattle.hs_overlay.specs.declared.shells.Saved.{Saved}
use Rattle.hs_overlay.specs.Shells.{noted_over, lowered_over, goes_back}

pub record OverlayData : Type 0 where
  pub scope : Scope
  pub status : Option ℕ
  -- the subshell environments that the effects began and that stand, the innermost first
  pub shells : List Saved
  pub inputs : InputsData
  pub routing : RoutingData
  pub files : Files

-- no effect yet, over a base whose ends and routes are known where they are told
abbrev pub no_overlay : Option (List Route) → Option (List Route) → OverlayData
no_overlay ends routes = record { scope = no_scope; status = None; shells = []; inputs = no_inputs; routing = no_routing ends routes; files = no_files }

-- what a subshell environment that begins here gives back
abbrev pub saved_of : OverlayData → Saved
saved_of o = record {
  scope = o.scope;
  routes = routes_over o.routing;
  tables = length o.routing.pushed;
  lower = false;
  inputs = length o.inputs.pushed;
  input = None;
}

abbrev pub popped_shell : List Saved → OverlayData → OverlayData
popped_shell [] o = o
popped_shell (s ∷ ss) o = record o { scope = s.scope; shells = ss; inputs = inputs_returned s.inputs s.input o.inputs; routing = routes_returned (goes_back s (length o.routing.pushed)) s.routes o.routing }

-- ---- effects

abbrev pub over_step : Effect → OverlayData → OverlayData
over_step (SetVar name var) o = record o { scope = record o.scope { vars = insert o.scope.vars name (Some var) } }
over_step (UnsetVar name) o = record o { scope = record o.scope { vars = insert o.scope.vars name None } }
over_step (SetFunc name body) o = record o { scope = record o.scope { funcs = insert o.scope.funcs name (Some body) } }
over_step (UnsetFunc name) o = record o { scope = record o.scope { funcs = insert o.scope.funcs name None } }
over_step (SetParams params) o = record o { scope = record o.scope { params = Some params } }
over_step (SetStatus status) o = record o { status = Some status }
over_step (SetCwd path) o = record o { scope = record o.scope { cwd = Some path } }
over_step (SetOpts opts) o = record o { scope = record o.scope { opts = Some opts } }
over_step (Put path text) o = record o { files = with_entry path (File text) o.files }
over_step (Append path text) o = record o { files = with_more path text o.files }
over_step (MakeDir path) o = record o { files = with_entry path Dir o.files }
over_step (Remove path) o = record o { files = without_entry path o.files }
over_step (Emit fd text) o = record o { routing = emitted_over (fd_number fd) text o.routing; files = with_more_at (file_over (fd_number fd) o.routing) text o.files }
over_step PushShell o = record o { shells = saved_of o ∷ o.shells }
over_step PopShell o = popped_shell o.shells o
over_step (PushInput text) o = record o { inputs = record o.inputs { pushed = text ∷ o.inputs.pushed } }
over_step (SetInput text) o = record o { inputs = with_input text o.inputs }
over_step PopInput o = record o { inputs = record o.inputs { pushed = drop 1 o.inputs.pushed } }
over_step (PushRoutes routes) o = record o { routing = record o.routing { pushed = new_table routes ∷ o.routing.pushed } }
over_step PopRoutes o = record o { routing = record o.routing { pushed = drop 1 o.routing.pushed }; shells = lowered_over o.shells (length o.routing.pushed - 1) }
over_step (SetRoutes routes) o = record o { routing = with_routes routes o.routing }
over_step (SetKept n text) o = record o { scope = record o.scope { kept = insert o.scope.kept n text } }
over_step (ExecInput text) o = record o { inputs = with_input text o.inputs; shells = noted_over o.shells (length o.inputs.pushed) (input_of o.inputs) }
over_step (Replied reply) o = record o { files = left_files reply.tree; inputs = with_input [] o.inputs }

-- one effect after another
abbrev pub over_all : List Effect → OverlayData → OverlayData
over_all [] o = o
over_all (e ∷ es) o = over_all es (over_step e o)

-- A pop finds what the effects pushed.
abbrev pub has_own : Effect → OverlayData → Bool
has_own PopInput o = is_pushed o.inputs.pushed
has_own PopShell o = is_pushed o.shells
has_own PopRoutes o = is_pushed o.routing.pushed
has_own _ o = true

-- Each pop has its push among the effects.
abbrev pub AllOwn : List Effect → OverlayData → Type 0
AllOwn [] o = Unit {0}
AllOwn (e ∷ es) o = (has_own e o ≡ true) × AllOwn es (over_step e o)
