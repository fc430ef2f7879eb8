-- Which effect touches which part of the state: each law names the effects that do, and its last line is all others.
use Rattle.std.proofs.Common.{◌≡◌, ℕ, ◌+◌, List, [], ◌∷◌, ◌++◌, Bool, true, false, T, refl, subst}
use Rattle.hs_world.specs.World.{WorldData, Apply}
use Rattle.hs_world.specs.declared.effect.Effect.{Effect}
use Rattle.hs_world.specs.declared.effect.Effect.TheVariants.{SetVar, UnsetVar, SetFunc, UnsetFunc, SetParams, SetStatus, SetCwd, SetOpts, Put, Append, MakeDir, Remove, Emit, PushShell, PopShell, PushInput, SetInput, PopInput, PushRoutes, PopRoutes, SetRoutes, SetKept, ExecInput, Replied}

abbrev pub sets_tree : Effect → Bool
sets_tree (Put path text) = true
sets_tree (Append path text) = true
sets_tree (MakeDir path) = true
sets_tree (Remove path) = true
sets_tree (Emit fd text) = true
sets_tree (Replied reply) = true
sets_tree _ = false

abbrev pub sets_vars : Effect → Bool
sets_vars (SetVar name var) = true
sets_vars (UnsetVar name) = true
sets_vars PopShell = true
sets_vars _ = false

abbrev pub sets_funcs : Effect → Bool
sets_funcs (SetFunc name body) = true
sets_funcs (UnsetFunc name) = true
sets_funcs PopShell = true
sets_funcs _ = false

abbrev pub sets_params : Effect → Bool
sets_params (SetParams params) = true
sets_params PopShell = true
sets_params _ = false

abbrev pub sets_status : Effect → Bool
sets_status (SetStatus status) = true
sets_status _ = false

abbrev pub sets_cwd : Effect → Bool
sets_cwd (SetCwd path) = true
sets_cwd PopShell = true
sets_cwd _ = false

abbrev pub sets_opts : Effect → Bool
sets_opts (SetOpts opts) = true
sets_opts PopShell = true
sets_opts _ = false

abbrev pub sets_kept : Effect → Bool
sets_kept (SetKept n text) = true
sets_kept PopShell = true
sets_kept _ = false

abbrev pub sets_shells : Effect → Bool
sets_shells PushShell = true
sets_shells PopShell = true
sets_shells PopRoutes = true
sets_shells (ExecInput text) = true
sets_shells _ = false

abbrev pub sets_input : Effect → Bool
sets_input (PushInput text) = true
sets_input (SetInput text) = true
sets_input PopInput = true
sets_input PopShell = true
sets_input (ExecInput text) = true
sets_input (Replied reply) = true
sets_input _ = false

abbrev pub sets_inputs : Effect → Bool
sets_inputs (PushInput text) = true
sets_inputs PopInput = true
sets_inputs PopShell = true
sets_inputs _ = false

abbrev pub sets_table : Effect → Bool
sets_table (PushRoutes routes) = true
sets_table PopRoutes = true
sets_table (SetRoutes routes) = true
sets_table (Emit fd text) = true
sets_table PopShell = true
sets_table _ = false

abbrev pub sets_tables : Effect → Bool
sets_tables (PushRoutes routes) = true
sets_tables PopRoutes = true
sets_tables (Emit fd text) = true
sets_tables _ = false

pub tree-stays : (e : Effect) (w : WorldData) → sets_tree e ≡ false → (Apply e w).tree ≡ w.tree
tree-stays (Put path text) w h = absurd (subst T h tt)
tree-stays (Append path text) w h = absurd (subst T h tt)
tree-stays (MakeDir path) w h = absurd (subst T h tt)
tree-stays (Remove path) w h = absurd (subst T h tt)
tree-stays (Emit fd text) w h = absurd (subst T h tt)
tree-stays (Replied reply) w h = absurd (subst T h tt)
tree-stays _ w h = refl

pub vars-stays : (e : Effect) (w : WorldData) → sets_vars e ≡ false → (Apply e w).vars ≡ w.vars
vars-stays (SetVar name var) w h = absurd (subst T h tt)
vars-stays (UnsetVar name) w h = absurd (subst T h tt)
vars-stays PopShell w h = absurd (subst T h tt)
vars-stays _ w h = refl

pub funcs-stays : (e : Effect) (w : WorldData) → sets_funcs e ≡ false → (Apply e w).funcs ≡ w.funcs
funcs-stays (SetFunc name body) w h = absurd (subst T h tt)
funcs-stays (UnsetFunc name) w h = absurd (subst T h tt)
funcs-stays PopShell w h = absurd (subst T h tt)
funcs-stays _ w h = refl

pub params-stays : (e : Effect) (w : WorldData) → sets_params e ≡ false → (Apply e w).params ≡ w.params
params-stays (SetParams params) w h = absurd (subst T h tt)
params-stays PopShell w h = absurd (subst T h tt)
params-stays _ w h = refl

pub status-stays : (e : Effect) (w : WorldData) → sets_status e ≡ false → (Apply e w).status ≡ w.status
status-stays (SetStatus status) w h = absurd (subst T h tt)
status-stays _ w h = refl

pub cwd-stays : (e : Effect) (w : WorldData) → sets_cwd e ≡ false → (Apply e w).cwd ≡ w.cwd
cwd-stays (SetCwd path) w h = absurd (subst T h tt)
cwd-stays PopShell w h = absurd (subst T h tt)
cwd-stays _ w h = refl

pub opts-stays : (e : Effect) (w : WorldData) → sets_opts e ≡ false → (Apply e w).opts ≡ w.opts
opts-stays (SetOpts opts) w h = absurd (subst T h tt)
opts-stays PopShell w h = absurd (subst T h tt)
opts-stays _ w h = refl

pub kept-stays : (e : Effect) (w : WorldData) → sets_kept e ≡ false → (Apply e w).kept ≡ w.kept
kept-stays (SetKept n text) w h = absurd (subst T h tt)
kept-stays PopShell w h = absurd (subst T h tt)
kept-stays _ w h = refl

pub shells-stays : (e : Effect) (w : WorldData) → sets_shells e ≡ false → (Apply e w).shells ≡ w.shells
shells-stays PushShell w h = absurd (subst T h tt)
shells-stays PopShell w h = absurd (subst T h tt)
shells-stays PopRoutes w h = absurd (subst T h tt)
shells-stays (ExecInput text) w h = absurd (subst T h tt)
shells-stays _ w h = refl

pub input-stays : (e : Effect) (w : WorldData) → sets_input e ≡ false → (Apply e w).input ≡ w.input
input-stays (PushInput text) w h = absurd (subst T h tt)
input-stays (SetInput text) w h = absurd (subst T h tt)
input-stays PopInput w h = absurd (subst T h tt)
input-stays PopShell w h = absurd (subst T h tt)
input-stays (ExecInput text) w h = absurd (subst T h tt)
input-stays (Replied reply) w h = absurd (subst T h tt)
input-stays _ w h = refl

pub inputs-stays : (e : Effect) (w : WorldData) → sets_inputs e ≡ false → (Apply e w).inputs ≡ w.inputs
inputs-stays (PushInput text) w h = absurd (subst T h tt)
inputs-stays PopInput w h = absurd (subst T h tt)
inputs-stays PopShell w h = absurd (subst T h tt)
inputs-stays _ w h = refl

pub table-stays : (e : Effect) (w : WorldData) → sets_table e ≡ false → (Apply e w).table ≡ w.table
table-stays (PushRoutes routes) w h = absurd (subst T h tt)
table-stays PopRoutes w h = absurd (subst T h tt)
table-stays (SetRoutes routes) w h = absurd (subst T h tt)
table-stays (Emit fd text) w h = absurd (subst T h tt)
table-stays PopShell w h = absurd (subst T h tt)
table-stays _ w h = refl

pub tables-stays : (e : Effect) (w : WorldData) → sets_tables e ≡ false → (Apply e w).tables ≡ w.tables
tables-stays (PushRoutes routes) w h = absurd (subst T h tt)
tables-stays PopRoutes w h = absurd (subst T h tt)
tables-stays (Emit fd text) w h = absurd (subst T h tt)
tables-stays _ w h = refl

pub zero-stays : (e : Effect) (w : WorldData) → (Apply e w).zero ≡ w.zero
zero-stays (SetStatus s) w = refl
zero-stays _ w = refl

pub limit-stays : (e : Effect) (w : WorldData) → (Apply e w).limit ≡ w.limit
limit-stays (SetStatus s) w = refl
limit-stays _ w = refl

pub count-grows : (e : Effect) (w : WorldData) → (Apply e w).count ≡ w.count + 1
count-grows _ w = refl
