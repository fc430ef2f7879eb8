-- The effects of a simple command are valid where they come, in every state, and its last one sets the status that it comes to.
use Rattle.std.proofs.Common.{◌≡◌, ℕ, Bool, true, false, List, [], ◌∷◌, refl, sym, ap, ◌∙◌, subst}
use Rattle.std.specs.Prelude.{Option, Some, None, Ok, Err, codes, if◌then◌else◌, nat_lt}
use Rattle.std.specs.FinMap.{get}
use Rattle.hs_world.proofs.Laws.{Applied-append}
use Rattle.hs_world.specs.World.{WorldData, AllValid, Applied, Apply, is_valid}
use Rattle.hs_world.specs.declared.effect.Effect.TheVariants.{PushInput, PopInput, SetStatus, SetVar}
use Rattle.hs_world.specs.declared.var.Var.{Var}
use Rattle.hs_view.specs.Acts.{only, then_by}
use Rattle.hs_view.specs.Steps.{Done, nothing}
use Rattle.sh_syntax.specs.declared.tree.Pipeline.{Pipeline}
use Rattle.sh_syntax.specs.declared.tree.Word.{Word}
use Rattle.sh_param.specs.Assigns.{is_readonly}
use Rattle.sh_param.specs.Messages.{message}
use Rattle.sh_param.specs.declared.mode.Context.{Context}
use Rattle.sh_param.specs.declared.mode.Context.TheVariants as context
use Rattle.sh_leaf.proofs.Inducting.{expand_valid}
use Rattle.sh_leaf.proofs.Operands.{Valid, valid_then}
use Rattle.sh_leaf.proofs.Valid.{found_valid}
use Rattle.sh_leaf.specs.Assigning.{Befores, all_assigned, assigned, given_back, set_back, set_var, value_of, value_told, var_made}
use Rattle.sh_leaf.specs.Command.{call, command, command_came, gives_back, kept, leaf_done, leaf_stages, lent, measured_run, set_status, stage_assigns, stage_words, texts_run, told, utility}
use Rattle.sh_leaf.specs.Expanding.{Came, came_by, came_then, fields_of, lines_of, list_length, measured_done, paths_come, texts_of}
use Rattle.sh_leaf.specs.Run.{status_of}
use Rattle.sh_leaf.specs.Utilities.{named}
use Rattle.sh_leaf.specs.declared.outcome.Outcome.{Outcome}

-- ---- words

rest_valid : {A C : Type 0} (rest : A → WorldData → Done (Came C)) (y : Came A) → ((x : A) → Valid (rest x)) → Valid (came_by rest y)
rest_valid rest (Ok x) v w = v x w
rest_valid rest (Err why) v w = tt

came_valid : {A C : Type 0} (one : WorldData → Done (Came A)) (rest : A → WorldData → Done (Came C)) → Valid one → ((x : A) → Valid (rest x)) → Valid (λ w. came_then (one w) rest w)
came_valid one rest a b = valid_then one (came_by rest) a (λ y. rest_valid rest y b)

fields_valid : (words : List Word) (c : Context) (status : ℕ) → Valid (fields_of words c status)
fields_valid words c status w = expand_valid words c status [] w

texts_valid : (words : List Word) (status : ℕ) → Valid (texts_of words status)
texts_valid words status w = came_valid (fields_of words context.Command status) paths_come (fields_valid words context.Command status) (λ fs u. tt) w

taken_valid : (long : Bool) (text : List ℕ) (w : WorldData) → AllValid (if long then PushInput text ∷ PopInput ∷ [] else []) w
taken_valid true text w = (refl, (refl, tt))
taken_valid false text w = tt

measured_valid : (ts : List (List ℕ)) → Valid (measured_done ts)
measured_valid ts w = taken_valid (nat_lt 1024 (list_length ts)) (lines_of ts) w

-- ---- assignments

value_valid : (status : ℕ) (word : Word) → Valid (value_of status word)
value_valid status word w = came_valid (fields_of (word ∷ []) context.Assign status) value_told (fields_valid (word ∷ []) context.Assign status) (λ fs u. tt) w

unless_valid : (readonly exports : Bool) (before : Option Var) (name text : List ℕ) (w : WorldData)
    → AllValid (if readonly then nothing (Err (message name (codes "is read only"))) w else only (SetVar name (var_made exports before text)) (Ok before) w).effects w
unless_valid true exports before name text w = tt
unless_valid false exports before name text w = (refl, tt)

set_valid : (exports : Bool) (name text : List ℕ) → Valid (set_var exports name text)
set_valid exports name text w = unless_valid (is_readonly (get w.vars name)) exports (get w.vars name) name text w

assigned_valid : (exports : Bool) (status : ℕ) (a : List ℕ × Word) → Valid (assigned exports status a)
assigned_valid exports status a w = came_valid (value_of status a.1) (set_var exports a.0) (value_valid status a.1) (set_valid exports a.0) w

all_valid : (exports : Bool) (status : ℕ) (more : List (List ℕ × Word)) (befores : Befores) → Valid (all_assigned exports status more befores)
all_valid exports status [] befores w = tt
all_valid exports status (a ∷ more) befores w =
    came_valid (assigned exports status a) (λ before. all_assigned exports status more ((a.0, before) ∷ befores)) (assigned_valid exports status a) (λ before. all_valid exports status more ((a.0, before) ∷ befores)) w

back_valid : (name : List ℕ) (before : Option Var) (w : WorldData) → is_valid (set_back (name, before)) w ≡ true
back_valid name None w = refl
back_valid name (Some var) w = refl

given_valid : (befores : Befores) (w : WorldData) → AllValid (given_back befores) w
given_valid [] w = tt
given_valid (b ∷ bs) w = (back_valid b.0 b.1 w, given_valid bs (Apply (set_back b) w))

-- ---- the call

lent_valid : (name : List ℕ) (args : List (List ℕ)) (befores : Befores) → Valid (lent name args befores)
lent_valid name args befores w = valid_then (utility name args) (gives_back befores) (found_valid (named name) args) (λ status u. given_valid befores u) w

call_valid : (name : List ℕ) (args : List (List ℕ)) (befores : Befores) → Valid (call name args befores)
call_valid name args befores w = valid_then (lent name args befores) set_status (lent_valid name args befores) (λ status u. (refl, tt)) w

run_valid : (assigns : List (List ℕ × Word)) (status : ℕ) (texts : List (List ℕ)) → Valid (texts_run assigns status texts)
run_valid assigns status [] w = came_valid (all_assigned false status assigns []) kept (all_valid false status assigns []) (λ befores u. (refl, tt)) w
run_valid assigns status (name ∷ args) w = came_valid (all_assigned true status assigns []) (call name args) (all_valid true status assigns []) (call_valid name args) w

measured_run_valid : (assigns : List (List ℕ × Word)) (status : ℕ) (texts : List (List ℕ)) → Valid (measured_run assigns status texts)
measured_run_valid assigns status texts w = valid_then (measured_done texts) (λ x. texts_run assigns status texts) (measured_valid texts) (λ x. run_valid assigns status texts) w

came_whole : (assigns : List (List ℕ × Word)) (words : List Word) (status : ℕ) → Valid (command_came assigns words status)
came_whole assigns words status w = came_valid (texts_of words status) (measured_run assigns status) (texts_valid words status) (measured_run_valid assigns status) w

told_valid : (came : Came Outcome) → Valid (told came)
told_valid (Ok outcome) w = tt
told_valid (Err why) w = (refl, (refl, tt))

command_valid : (assigns : List (List ℕ × Word)) (words : List Word) → Valid (command assigns words)
command_valid assigns words w = valid_then (command_came assigns words w.status) told (came_whole assigns words w.status) told_valid w

pub leaf_valid : (pipeline : Option Pipeline) → Valid (leaf_done pipeline)
leaf_valid pipeline = command_valid (stage_assigns (leaf_stages pipeline)) (stage_words (leaf_stages pipeline))

-- ---- the status

-- The state has the status of the outcome.
abbrev EndsIn : Came Outcome → WorldData → Type 0
EndsIn (Ok outcome) w = status_of outcome ≡ w.status
EndsIn (Err why) w = Unit {0}

abbrev Sets : (WorldData → Done (Came Outcome)) → Type 0
Sets meaning = (w : WorldData) → EndsIn (meaning w).answer (Applied (meaning w).effects w)

rest_sets : {A : Type 0} (rest : A → WorldData → Done (Came Outcome)) (y : Came A) → ((x : A) → Sets (rest x)) → Sets (came_by rest y)
rest_sets rest (Ok x) s w = s x w
rest_sets rest (Err why) s w = tt

then_sets : {A : Type 0} (one : WorldData → Done A) (rest : A → WorldData → Done (Came Outcome)) → ((x : A) → Sets (rest x)) → Sets (λ w. then_by (one w) rest w)
then_sets one rest s w =
    let d = one w in
    let e = rest d.answer (Applied d.effects w) in
    subst (EndsIn e.answer) (sym (Applied-append d.effects e.effects w)) (s d.answer (Applied d.effects w))

call_sets : (name : List ℕ) (args : List (List ℕ)) (befores : Befores) → Sets (call name args befores)
call_sets name args befores w =
    let d = lent name args befores w in
    sym (ap (λ (u : WorldData). u.status) (Applied-append d.effects (SetStatus d.answer ∷ []) w))

run_sets : (assigns : List (List ℕ × Word)) (status : ℕ) (texts : List (List ℕ)) → Sets (texts_run assigns status texts)
run_sets assigns status [] w = then_sets (all_assigned false status assigns []) (came_by kept) (λ y. rest_sets kept y (λ befores u. refl)) w
run_sets assigns status (name ∷ args) w = then_sets (all_assigned true status assigns []) (came_by (call name args)) (λ y. rest_sets (call name args) y (call_sets name args)) w

came_sets : (assigns : List (List ℕ × Word)) (words : List Word) (status : ℕ) → Sets (command_came assigns words status)
came_sets assigns words status w =
    then_sets (texts_of words status) (came_by (measured_run assigns status)) (λ y. rest_sets (measured_run assigns status) y (λ texts. then_sets (measured_done texts) (λ x. texts_run assigns status texts) (λ x. run_sets assigns status texts))) w

told_sets : (came : Came Outcome) (w : WorldData) → EndsIn came w → status_of (told came w).answer ≡ (Applied (told came w).effects w).status
told_sets (Ok outcome) w e = e
told_sets (Err why) w e = refl

command_status : (assigns : List (List ℕ × Word)) (words : List Word) (w : WorldData) → status_of (command assigns words w).answer ≡ (Applied (command assigns words w).effects w).status
command_status assigns words w =
    let d = command_came assigns words w.status w in
    let v = Applied d.effects w in
    told_sets d.answer v (came_sets assigns words w.status w) ∙ sym (ap (λ (u : WorldData). u.status) (Applied-append d.effects (told d.answer v).effects w))

-- the status that it came to
pub leaf_status : (pipeline : Option Pipeline) (w : WorldData) → status_of (leaf_done pipeline w).answer ≡ (Applied (leaf_done pipeline w).effects w).status
leaf_status pipeline w = command_status (stage_assigns (leaf_stages pipeline)) (stage_words (leaf_stages pipeline)) w
