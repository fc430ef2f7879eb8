-- The state of the shell, the values at its locations, and what an effect changes in it. POSIX.1-2017, XCU 2.12 has the
-- shell execution environment, of which this is the part that a script can reach.
use Rattle.std.specs.Prelude.{ℕ, ◌+◌, ◌^◌, ◌-◌, List, [], ◌∷◌, ◌++◌, Bool, true, false, not, ◌&&◌, Option, Some, None, nat_lt, leb, if◌then◌else◌, length, IsTrue}
use Rattle.std.specs.FinMap.{empty, get, insert, remove, keys, from_entries}
use Rattle.hs_world.specs.Names.{name_cmp}
use Rattle.hs_world.specs.Paths.{Path, parent}
use Rattle.hs_world.specs.Files.{Files, entry_at, kind_of, bytes_of, names_of, names_in, is_file, is_dir, is_other, is_absent, is_removable, is_empty_list, appended, is_over, is_over_with}
use Rattle.hs_world.specs.Tables.{fd_number, route_at, end_in, ends_of, captured_in, taker_in, take_up, emitted_below, has_capture, opened, is_table, may_all_stand, first_routes}
use Rattle.hs_world.specs.Vars.{VarMap, FuncMap, KeptMap}
use Rattle.hs_world.specs.Shells.{noted, lowered, without_top, vars_back, funcs_back, params_back, cwd_back, opts_back, kept_back, table_back, deep, input_back, inputs_back}
use Rattle.hs_world.specs.declared.effect.Effect.{Effect}
use Rattle.hs_world.specs.declared.effect.Effect.TheVariants.{SetVar, UnsetVar, SetFunc, UnsetFunc, SetParams, SetStatus, SetCwd, SetOpts, Put, Append, MakeDir, Remove, Emit, PushShell, PopShell, PushInput, SetInput, PopInput, PushRoutes, PopRoutes, SetRoutes, SetKept, ExecInput, Replied}
use Rattle.hs_world.specs.declared.effect.Fd.{Fd}
use Rattle.hs_world.specs.declared.effect.Fd.TheVariants.{One, Two}
use Rattle.hs_world.specs.declared.entry.Entry.{Entry}
use Rattle.hs_world.specs.declared.entry.Entry.TheVariants as entry
use Rattle.hs_world.specs.declared.loc.Loc.{Loc}
use Rattle.hs_world.specs.declared.loc.Loc.TheVariants as loc
use Rattle.hs_world.specs.declared.loc.Value.{Value}
use Rattle.hs_world.specs.declared.loc.Value.TheVariants as value
use Rattle.hs_world.specs.declared.opts.Opts.{Opts}
use Rattle.hs_world.specs.declared.route.Route.{Route}
use Rattle.hs_world.specs.declared.route.Route.TheVariants as route
use Rattle.hs_world.specs.declared.route.RouteTable.{RouteTable}
use Rattle.hs_world.specs.declared.shell.Shell.{Shell}
use Rattle.hs_world.specs.declared.var.Var.{Var}
use Rattle.hs_world.specs.declared.world.Limit.{Limit}
use Rattle.hs_world.specs.declared.world.Limit.TheVariants.{Bytes, Tree}
use Rattle.hs_world.specs.declared.world.Limits.{Limits}

pub record WorldData : Type 0 where
  pub tree : Files
  pub vars : VarMap
  pub funcs : FuncMap
  -- `$0`, which no effect changes
  pub zero : List ℕ
  pub params : List (List ℕ)
  -- what `$?` gives (XCU 2.5.2)
  pub status : ℕ
  pub cwd : Path
  pub opts : Opts
  pub kept : KeptMap
  -- the subshell environments that stand, the innermost first
  pub shells : List Shell
  -- what standard input has left
  pub input : List ℕ
  -- the texts of standard input below that one, the next one first
  pub inputs : List (List ℕ)
  -- the innermost table of routes, and those below it, the next one first
  pub table : RouteTable
  pub tables : List RouteTable
  -- the most bytes of a value that an effect makes
  pub limit : ℕ
  -- how many effects were applied
  pub count : ℕ

abbrev pub no_options : Opts
no_options = record { 0 = 0 }

-- where a script begins
abbrev pub new_world : Files → List (List ℕ × Var) → List ℕ → List (List ℕ) → List ℕ → Limits → WorldData
new_world tree vars zero params input limits = record {
  tree = tree;
  vars = from_entries {R = name_cmp} vars;
  funcs = empty;
  zero = zero;
  params = params;
  status = 0;
  cwd = [];
  opts = no_options;
  kept = empty;
  shells = [];
  input = input;
  inputs = [];
  table = record { routes = first_routes; capture = None };
  tables = [];
  limit = limits.bytes;
  count = 0;
}

-- the tables of routes, the innermost first
abbrev pub all_tables : WorldData → List RouteTable
all_tables w = w.table ∷ w.tables

-- ---- the value at a location

abbrev pub At : WorldData → Loc → Value
At w (loc.Kind path) = value.Kind (kind_of (entry_at w.tree path))
At w (loc.Bytes path) = value.Bytes (bytes_of (entry_at w.tree path))
At w (loc.Names path) = value.Names (names_of w.tree path)
At w (loc.Var name) = value.Var (get w.vars name)
At w (loc.Func name) = value.Func (get w.funcs name)
At w loc.Params = value.Params w.zero w.params
At w loc.Status = value.Status w.status
At w loc.Cwd = value.Cwd w.cwd
At w loc.Opts = value.Opts w.opts
At w loc.Input = value.Input w.input
At w loc.Routes = value.Routes w.table.routes
At w loc.Ends = value.Ends (ends_of (all_tables w))
At w loc.Captured = value.Captured (captured_in (all_tables w))
At w (loc.Kept n) = value.Kept (get w.kept n)

-- ---- what goes to a descriptor

-- where it leads in the end
abbrev pub end_of : Fd → WorldData → Route
end_of fd w = end_in (fd_number fd) (all_tables w)

-- the route that the innermost table has for it
abbrev pub route_of : Fd → WorldData → Route
route_of fd w = route_at (fd_number fd) w.table.routes

-- at the end of a file, where the path still has one
abbrev pub emitted_files : Route → Files → List ℕ → Files
emitted_files (route.File path) tree text = appended tree path text
emitted_files _ tree text = tree

-- the file that a route leads to
abbrev pub file_in : Route → Option Path
file_in (route.File path) = Some path
file_in _ = None

-- ---- what an effect changes, but for the count

abbrev pub kept_with : Option (List ℕ) → KeptMap → ℕ → KeptMap
kept_with None kept n = remove kept n
kept_with (Some text) kept n = insert kept n text

abbrev pub top_or : {A : Type 0} → A → List A → A
top_or x [] = x
top_or x (y ∷ ys) = y

-- what a subshell environment that begins here gives back
abbrev pub shell_of : WorldData → Shell
shell_of w = record {
  vars = w.vars;
  funcs = w.funcs;
  params = w.params;
  cwd = w.cwd;
  opts = w.opts;
  kept = w.kept;
  routes = w.table.routes;
  tables = length w.tables;
  lower = false;
  inputs = length w.inputs;
  input = None;
}

abbrev pub change : Effect → WorldData → WorldData
change (SetVar name var) w = record w { vars = insert w.vars name var }
change (UnsetVar name) w = record w { vars = remove w.vars name }
change (SetFunc name body) w = record w { funcs = insert w.funcs name body }
change (UnsetFunc name) w = record w { funcs = remove w.funcs name }
change (SetParams params) w = record w { params = params }
change (SetStatus status) w = record w { status = status }
change (SetCwd path) w = record w { cwd = path }
change (SetOpts opts) w = record w { opts = opts }
change (Put path text) w = record w { tree = insert w.tree path (entry.File text) }
change (Append path text) w = record w { tree = appended w.tree path text }
change (MakeDir path) w = record w { tree = insert w.tree path entry.Dir }
change (Remove path) w = record w { tree = remove w.tree path }
change (Emit fd text) w = record w {
  tree = emitted_files (end_of fd w) w.tree text;
  table = take_up (route_of fd w) text w.table;
  tables = emitted_below (route_of fd w) text w.tables;
}
change PushShell w = record w { shells = shell_of w ∷ w.shells }
change PopShell w = record w {
  vars = vars_back w.shells w.vars;
  funcs = funcs_back w.shells w.funcs;
  params = params_back w.shells w.params;
  cwd = cwd_back w.shells w.cwd;
  opts = opts_back w.shells w.opts;
  kept = kept_back w.shells w.kept;
  table = table_back w.shells (length w.tables) w.table;
  input = input_back w.shells w.input w.inputs;
  inputs = inputs_back w.shells w.inputs;
  shells = without_top w.shells;
}
change (PushInput text) w = record w { input = text; inputs = w.input ∷ w.inputs }
change (SetInput text) w = record w { input = text }
change PopInput w = record w { input = top_or w.input w.inputs; inputs = without_top w.inputs }
change (PushRoutes routes) w = record w {
  table = record { routes = routes; capture = opened (has_capture routes) };
  tables = w.table ∷ w.tables;
}
change PopRoutes w = record w {
  table = top_or w.table w.tables;
  tables = without_top w.tables;
  shells = lowered w.shells (length w.tables - 1);
}
change (SetRoutes routes) w = record w { table = record w.table { routes = routes } }
change (SetKept n text) w = record w { kept = kept_with text w.kept n }
change (ExecInput text) w = record w { input = text; shells = noted w.shells (length w.inputs) w.input }
change (Replied reply) w = record w { tree = reply.tree; input = [] }

abbrev pub Apply : Effect → WorldData → WorldData
Apply e w = record (change e w) { count = w.count + 1 }

-- one effect after another
abbrev pub Applied : List Effect → WorldData → WorldData
Applied [] w = w
Applied (e ∷ es) w = Applied es (Apply e w)

-- ---- which effects are valid

abbrev pub is_pushed : {A : Type 0} → List A → Bool
is_pushed xs = not (is_empty_list xs)

-- An entry needs a folder to be in. A file is put where a file is, or nothing; a folder is made where nothing is. What is
-- removed is a file, or a folder without entries that is not the root. A pop needs what was pushed.
abbrev pub is_valid : Effect → WorldData → Bool
is_valid (Put path text) w = is_dir (entry_at w.tree (parent path)) && not (is_dir (entry_at w.tree path)) && not (is_other (entry_at w.tree path))
is_valid (Append path text) w = is_file (entry_at w.tree path)
is_valid (MakeDir path) w = is_dir (entry_at w.tree (parent path)) && is_absent (entry_at w.tree path)
is_valid (Remove path) w = is_removable (entry_at w.tree path) w.tree path
is_valid PopShell w = is_pushed w.shells
is_valid PopInput w = is_pushed w.inputs
is_valid (PushRoutes routes) w = is_table routes
is_valid PopRoutes w = is_pushed w.tables
is_valid (SetRoutes routes) w = is_table routes && may_all_stand w.table routes
is_valid (SetKept n text) w = leb 3 n && leb n 9
is_valid _ w = true

-- Each effect is valid where it comes.
abbrev pub AllValid : List Effect → WorldData → Type 0
AllValid [] w = Unit {0}
AllValid (e ∷ es) w = IsTrue (is_valid e w) × AllValid es (Apply e w)

-- ---- which effects fit

-- the length of a text that is not there is none
abbrev pub length_of : Option (List ℕ) → ℕ
length_of None = 0
length_of (Some text) = length text

-- how long a text becomes with this one behind it, where it is there
abbrev pub length_with : Option (List ℕ) → List ℕ → ℕ
length_with None more = 0
length_with (Some old) more = length old + length more

-- how long what takes up the text becomes
abbrev pub emitted_length : Route → Fd → List ℕ → WorldData → ℕ
emitted_length (route.File path) fd text w = length_with (bytes_of (entry_at w.tree path)) text
emitted_length route.Capture fd text w = length_with (taker_in (fd_number fd) (all_tables w)) text
emitted_length _ fd text w = 0

-- how long the variable, file, input, capture or kept text is that the effect makes
abbrev pub made : Effect → WorldData → ℕ
made (SetVar name var) w = length_of var.value
made (Put path text) w = length text
made (Append path text) w = length_with (bytes_of (entry_at w.tree path)) text
made (Emit fd text) w = emitted_length (end_of fd w) fd text w
made (PushInput text) w = length text
made (SetInput text) w = length text
made (SetKept n text) w = length_of text
made (ExecInput text) w = length text
made _ w = 0

abbrev pub emitted_over : Route → Files → List ℕ → Bool
emitted_over (route.File path) tree text = is_over_with (entry_at tree path) tree path text
emitted_over _ tree text = false

-- whether the tree that the effect makes passes its limit
abbrev pub passes_tree : Effect → WorldData → Bool
passes_tree (Put path text) w = is_over (insert w.tree path (entry.File text))
passes_tree (Append path text) w = is_over_with (entry_at w.tree path) w.tree path text
passes_tree (MakeDir path) w = is_over (insert w.tree path entry.Dir)
passes_tree (Emit fd text) w = emitted_over (end_of fd w) w.tree text
passes_tree (Replied reply) w = is_over reply.tree
passes_tree _ w = false

-- The limit that the effect would pass: that of bytes, also where 2 ^ 62 effects were applied, before that of the tree.
abbrev pub passed : Effect → WorldData → Option Limit
passed e w = if leb (made e w) w.limit && nat_lt w.count (2 ^ 62) then if passes_tree e w then Some Tree else None else Some Bytes

-- ---- what reaches the program's streams

abbrev pub stream_in : Route → Option Fd
stream_in (route.Stream fd) = Some fd
stream_in _ = None

-- the stream that a descriptor leads to
abbrev pub stream_of : Fd → WorldData → Option Fd
stream_of fd w = stream_in (end_of fd w)

abbrev pub sent_by : Option Fd → Fd → List ℕ → List ℕ
sent_by (Some One) One text = text
sent_by (Some Two) Two text = text
sent_by _ _ text = []

-- the bytes that the effect sends to a stream of the program
abbrev pub sent : Fd → Effect → WorldData → List ℕ
sent to (Emit fd text) w = sent_by (stream_of fd w) to text
sent to _ w = []

-- the bytes that reached a stream of the program
abbrev pub written : Fd → List Effect → WorldData → List ℕ
written to [] w = []
written to (e ∷ es) w = sent to e w ++ written to es (Apply e w)

abbrev pub output : List Effect → WorldData → List ℕ
output = written One

abbrev pub errors : List Effect → WorldData → List ℕ
errors = written Two
