-- Examples that are computed: what each effect does in a state, and where what is written goes.
use Rattle.std.proofs.Common.{◌≡◌, ℕ, List, [], ◌∷◌, ◌++◌, refl, ap, ◌∙◌}
use Rattle.std.specs.Prelude.{Option, Some, None, Bool, true, false, codes}
use Rattle.std.specs.FinMap.{empty, insert, get, get-insert, get-remove, get-empty}
use Rattle.std.specs.Cmp.Lexicographic.{lists_total, nat_list_cmp_total}
use Rattle.hs_world.specs.Names.{put_name, without_name}
use Rattle.hs_world.specs.Paths.{parent, resolve, is_name, components, go_all, begins_at}
use Rattle.hs_world.specs.Files.{bytes_of, names_in}
use Rattle.hs_world.specs.Tables.{first_routes, end_in, ends_of, is_table}
use Rattle.hs_world.specs.World.{WorldData, new_world, At, Apply, Applied, is_valid, passed, sent, written, output, errors, made}
use Rattle.hs_world.specs.declared.effect.Effect.{Effect}
use Rattle.hs_world.specs.declared.effect.Effect.TheVariants.{SetVar, UnsetVar, SetParams, SetStatus, SetCwd, SetOpts, Put, Append, MakeDir, Remove, Emit, PushShell, PopShell, PushInput, SetInput, PopInput, PushRoutes, PopRoutes, SetRoutes, SetKept, ExecInput}
use Rattle.hs_world.specs.declared.effect.Fd.TheVariants.{One, Two}
use Rattle.hs_world.specs.declared.entry.Entry.{Entry}
use Rattle.hs_world.specs.declared.entry.Entry.TheVariants as entry
use Rattle.hs_world.specs.declared.entry.Kind.TheVariants as kind
use Rattle.hs_world.specs.declared.loc.Loc.TheVariants as loc
use Rattle.hs_world.specs.declared.loc.Value.{Value}
use Rattle.hs_world.specs.declared.loc.Value.TheVariants as value
use Rattle.hs_world.specs.declared.route.Route.{Route}
use Rattle.hs_world.specs.declared.route.Route.TheVariants.{Stream, Same, File, Null, Closed, Capture}
use Rattle.hs_world.specs.declared.var.Var.{Var}
use Rattle.hs_world.specs.declared.world.Limit.TheVariants.{Bytes, Tree}

-- ---- paths

goes-on : (go_all (begins_at (codes "d" ∷ []) (codes "a/b")) (components (codes "a/b"))) ≡ codes "d" ∷ codes "a" ∷ codes "b" ∷ []
goes-on = refl

folds-dots : (go_all (begins_at (codes "d" ∷ []) (codes "..//./e/")) (components (codes "..//./e/"))) ≡ codes "e" ∷ []
folds-dots = refl

root-is_its_parent : (go_all (begins_at (codes "d" ∷ []) (codes "/..")) (components (codes "/.."))) ≡ []
root-is_its_parent = refl

resolve-nothing : resolve [] [] ≡ None
resolve-nothing = refl

resolve-nul : resolve [] (97 ∷ 0 ∷ []) ≡ None
resolve-nul = refl

parent-of : parent (codes "a" ∷ codes "b" ∷ []) ≡ codes "a" ∷ []
parent-of = refl

dots-are_no_names : is_name (codes "..") ≡ false
dots-are_no_names = refl

names-of_folder : names_in (codes "d" ∷ []) ((codes "d" ∷ []) ∷ (codes "d" ∷ codes "a" ∷ []) ∷ (codes "d" ∷ codes "a" ∷ codes "x" ∷ []) ∷ (codes "d" ∷ codes "b" ∷ []) ∷ (codes "e" ∷ []) ∷ []) ≡ codes "a" ∷ codes "b" ∷ []
names-of_folder = refl

-- ---- states

abbrev start : WorldData
start = new_world empty [] (codes "hs") [] (codes "in") (record { bytes = 1024; turns = 1 })

abbrev shown : List ℕ → Var
shown text = record { value = Some text; exported = false; readonly = false }

status-is_set : At (Apply (SetStatus 3) start) loc.Status ≡ value.Status 3
status-is_set = refl

variable-is_set : At (Apply (SetVar (codes "x") (shown (codes "1"))) start) (loc.Var (codes "x")) ≡ value.Var (Some (shown (codes "1")))
variable-is_set = ap value.Var (get-insert nat_list_cmp_total start.vars (codes "x") (shown (codes "1")) (codes "x"))

variable-comes_back : At (Applied (PushShell ∷ SetVar (codes "x") (shown (codes "1")) ∷ PopShell ∷ []) start) (loc.Var (codes "x")) ≡ At start (loc.Var (codes "x"))
variable-comes_back = refl

cwd-comes_back : At (Applied (PushShell ∷ SetCwd (codes "d" ∷ []) ∷ PopShell ∷ []) start) loc.Cwd ≡ value.Cwd []
cwd-comes_back = refl

status-stays : At (Applied (PushShell ∷ SetStatus 3 ∷ PopShell ∷ []) start) loc.Status ≡ value.Status 3
status-stays = refl

file-is_put : At (Apply (Put (codes "f" ∷ []) (codes "a")) start) (loc.Bytes (codes "f" ∷ [])) ≡ value.Bytes (Some (codes "a"))
file-is_put = ap (λ (e : Option Entry). value.Bytes (bytes_of e)) (get-insert (lists_total nat_list_cmp_total) start.tree (codes "f" ∷ []) (entry.File (codes "a")) (codes "f" ∷ []))

root-is_a_folder : At start (loc.Kind []) ≡ value.Kind kind.Dir
root-is_a_folder = refl

root-is_not_removed : is_valid (Remove []) start ≡ false
root-is_not_removed = refl

count-grows : (Applied (SetStatus 1 ∷ PushShell ∷ PopShell ∷ []) start).count ≡ 3
count-grows = refl

-- ---- standard input

input-is_pushed : At (Applied (PushInput (codes "new") ∷ PopInput ∷ []) start) loc.Input ≡ value.Input (codes "in")
input-is_pushed = refl

input-stays_read : At (Applied (PushShell ∷ SetInput (codes "n") ∷ PopShell ∷ []) start) loc.Input ≡ value.Input (codes "n")
input-stays_read = refl

exec-comes_back : At (Applied (PushShell ∷ ExecInput (codes "a") ∷ ExecInput (codes "b") ∷ PopShell ∷ []) start) loc.Input ≡ value.Input (codes "in")
exec-comes_back = refl

-- A text that was pushed since takes it with it.
exec-above : At (Applied (PushShell ∷ PushInput (codes "a") ∷ ExecInput (codes "b") ∷ PopShell ∷ []) start) loc.Input ≡ value.Input (codes "in")
exec-above = refl

pop-of_nothing : is_valid PopInput start ≡ false
pop-of_nothing = refl

-- ---- routes and captures

abbrev same_routes : List Route
same_routes = Same 1 ∷ Same 2 ∷ Same 3 ∷ Same 4 ∷ Same 5 ∷ Same 6 ∷ Same 7 ∷ Same 8 ∷ Same 9 ∷ []

abbrev to_capture : List Route
to_capture = Capture ∷ Same 2 ∷ Same 3 ∷ Same 4 ∷ Same 5 ∷ Same 6 ∷ Same 7 ∷ Same 8 ∷ Same 9 ∷ []

-- 2>&1
abbrev both_one : List Route
both_one = Same 1 ∷ Same 1 ∷ Same 3 ∷ Same 4 ∷ Same 5 ∷ Same 6 ∷ Same 7 ∷ Same 8 ∷ Same 9 ∷ []

emit-to_stream : output (Emit One (codes "a") ∷ []) start ≡ codes "a"
emit-to_stream = refl

emit-in_order : errors (Emit Two (codes "a") ∷ Emit One (codes "b") ∷ Emit Two (codes "c") ∷ []) start ≡ codes "ac"
emit-in_order = refl

emit-by_same : output (PushRoutes both_one ∷ Emit Two (codes "a") ∷ []) start ≡ codes "a"
emit-by_same = refl

emit-to_nowhere : output (PushRoutes (Null ∷ same_routes) ∷ Emit One (codes "a") ∷ []) start ≡ []
emit-to_nowhere = refl

emit-is_captured : At (Applied (PushRoutes to_capture ∷ Emit One (codes "a") ∷ Emit One (codes "b") ∷ []) start) loc.Captured ≡ value.Captured (codes "ab")
emit-is_captured = refl

captured-is_not_sent : output (PushRoutes to_capture ∷ Emit One (codes "a") ∷ []) start ≡ []
captured-is_not_sent = refl

-- Through a table above it, a capture takes up what goes there.
captured-below : At (Applied (PushRoutes to_capture ∷ PushRoutes both_one ∷ Emit Two (codes "a") ∷ PopRoutes ∷ []) start) loc.Captured ≡ value.Captured (codes "a")
captured-below = refl

ends-at_start : At start loc.Ends ≡ value.Ends first_routes
ends-at_start = refl

ends-of_capture : At (Applied (PushRoutes to_capture ∷ PushRoutes both_one ∷ []) start) loc.Ends ≡ value.Ends (Capture ∷ Capture ∷ Closed ∷ Closed ∷ Closed ∷ Closed ∷ Closed ∷ Closed ∷ Closed ∷ [])
ends-of_capture = refl

-- A capture below another is seen as nowhere.
ends-of_hidden : At (Applied (PushRoutes to_capture ∷ PushRoutes (Same 2 ∷ Capture ∷ Same 1 ∷ Same 4 ∷ Same 5 ∷ Same 6 ∷ Same 7 ∷ Same 8 ∷ Same 9 ∷ []) ∷ []) start) loc.Ends
    ≡ value.Ends (Stream Two ∷ Capture ∷ Null ∷ Closed ∷ Closed ∷ Closed ∷ Closed ∷ Closed ∷ Closed ∷ [])
ends-of_hidden = refl

-- A subshell environment gives the routes back, but keeps what was captured.
routes-come_back : At (Applied (PushRoutes to_capture ∷ PushShell ∷ Emit One (codes "a") ∷ SetRoutes same_routes ∷ Emit One (codes "b") ∷ PopShell ∷ Emit One (codes "c") ∷ []) start) loc.Captured ≡ value.Captured (codes "ac")
routes-come_back = refl

-- They don't where the table was taken away and another one put in its place.
routes-of_another : At (Applied (PushRoutes to_capture ∷ PushShell ∷ PopRoutes ∷ PushRoutes same_routes ∷ PopShell ∷ []) start) loc.Routes ≡ value.Routes same_routes
routes-of_another = refl

table-has_nine : is_table (Null ∷ []) ≡ false
table-has_nine = refl

set-needs_capture : is_valid (SetRoutes to_capture) start ≡ false
set-needs_capture = refl

kept-from_three : is_valid (SetKept 2 None) start ≡ false
kept-from_three = refl

-- ---- limits

long-does_not_fit : passed (PushInput (codes "abc")) (record start { limit = 2 }) ≡ Some Bytes
long-does_not_fit = refl

capture-does_not_fit : passed (Emit One (codes "c")) (record (Applied (PushRoutes to_capture ∷ Emit One (codes "ab") ∷ []) start) { limit = 2 }) ≡ Some Bytes
capture-does_not_fit = refl

streams-are_not_measured : passed (Emit One (codes "abc")) (record start { limit = 2 }) ≡ None
streams-are_not_measured = refl

too_many-effects : passed (SetStatus 0) (record start { count = 4611686018427387904 }) ≡ Some Bytes
too_many-effects = refl
