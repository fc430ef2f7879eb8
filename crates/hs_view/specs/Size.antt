-- The size of a trace: 64 for each pair and each effect, 16 for each text and each path in them, and their bytes.
use Rattle.std.specs.Prelude.{ℕ, ◌+◌, List, [], ◌∷◌, Option, Some, None}
use Rattle.std.specs.FinMap.{entries}
use Rattle.hs_world.specs.Reads.{ReadList}
pub use Rattle.hs_world.specs.Sizes.{capped, entries_size, path_bytes, path_size, text_size}
use Rattle.hs_world.specs.declared.effect.Effect.{Effect}
use Rattle.hs_world.specs.declared.effect.Effect.TheVariants.{SetVar, UnsetVar, SetFunc, UnsetFunc, SetParams, SetCwd, Put, Append, MakeDir, Remove, Emit, PushInput, SetInput, PushRoutes, SetRoutes, SetKept, ExecInput, Replied}
use Rattle.hs_world.specs.declared.loc.Loc.{Loc}
use Rattle.hs_world.specs.declared.loc.Loc.TheVariants as loc
use Rattle.hs_world.specs.declared.loc.Value.{Value}
use Rattle.hs_world.specs.declared.loc.Value.TheVariants as value
use Rattle.hs_world.specs.declared.reply.Reply.{Reply}
use Rattle.hs_world.specs.declared.route.Route.{Route}
use Rattle.hs_world.specs.declared.route.Route.TheVariants as route
use Rattle.hs_world.specs.declared.var.Var.{Var}

abbrev pub texts_size : List (List ℕ) → ℕ
texts_size [] = 0
texts_size (x ∷ xs) = text_size x + texts_size xs

abbrev pub maybe_size : Option (List ℕ) → ℕ
maybe_size None = 0
maybe_size (Some text) = text_size text

abbrev pub names_size : Option (List (List ℕ)) → ℕ
names_size None = 0
names_size (Some names) = texts_size names

abbrev pub var_size : Option Var → ℕ
var_size None = 0
var_size (Some var) = maybe_size var.value

abbrev pub route_size : Route → ℕ
route_size (route.File path) = path_size path
route_size _ = 0

abbrev pub routes_size : List Route → ℕ
routes_size [] = 0
routes_size (r ∷ rs) = route_size r + routes_size rs

abbrev pub reply_size : Reply → ℕ
reply_size reply = text_size reply.out + text_size reply.err + entries_size (entries reply.tree)

abbrev pub loc_size : Loc → ℕ
loc_size (loc.Kind path) = path_size path
loc_size (loc.Bytes path) = path_size path
loc_size (loc.Names path) = path_size path
loc_size (loc.Var name) = text_size name
loc_size (loc.Func name) = text_size name
loc_size _ = 0

abbrev pub value_size : Value → ℕ
value_size (value.Bytes text) = maybe_size text
value_size (value.Names names) = names_size names
value_size (value.Var var) = var_size var
value_size (value.Params zero params) = text_size zero + texts_size params
value_size (value.Cwd path) = path_size path
value_size (value.Input text) = text_size text
value_size (value.Routes routes) = routes_size routes
value_size (value.Ends routes) = routes_size routes
value_size (value.Captured text) = text_size text
value_size (value.Kept text) = maybe_size text
value_size _ = 0

abbrev pub effect_size : Effect → ℕ
effect_size (SetVar name var) = text_size name + maybe_size var.value
effect_size (UnsetVar name) = text_size name
effect_size (SetFunc name body) = text_size name
effect_size (UnsetFunc name) = text_size name
effect_size (SetParams params) = texts_size params
effect_size (SetCwd path) = path_size path
effect_size (Put path text) = path_size path + text_size text
effect_size (Append path text) = path_size path + text_size text
effect_size (MakeDir path) = path_size path
effect_size (Remove path) = path_size path
effect_size (Emit fd text) = text_size text
effect_size (PushInput text) = text_size text
effect_size (SetInput text) = text_size text
effect_size (PushRoutes routes) = routes_size routes
effect_size (SetRoutes routes) = routes_size routes
effect_size (SetKept n text) = maybe_size text
effect_size (ExecInput text) = text_size text
effect_size (Replied reply) = reply_size reply
effect_size _ = 0

abbrev pub read_size : Loc × Value → ℕ
read_size r = 64 + loc_size r.0 + value_size r.1

abbrev pub reads_size : ReadList → ℕ
reads_size [] = 0
reads_size (r ∷ rs) = read_size r + reads_size rs

abbrev pub effects_size : List Effect → ℕ
effects_size [] = 0
effects_size (e ∷ es) = 64 + effect_size e + effects_size es

abbrev pub trace_size : ReadList → List Effect → ℕ
trace_size reads effects = reads_size reads + effects_size effects
