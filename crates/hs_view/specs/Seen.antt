-- What contracts see of a base.
use Rattle.std.specs.Prelude.{◌≡◌, ℕ, Bool, true, false, not, ◌&&◌, ◌||◌, List, [], ◌∷◌, ◌++◌, Option, Some, option_map, Result, Ok, Err}
use Rattle.std.proofs.Common.{◌⊎◌}
use Rattle.std.specs.FinMap.{entries}
use Rattle.hs_world.specs.Names.{same_name}
use Rattle.hs_world.specs.World.{WorldData, Apply}
use Rattle.hs_world.specs.declared.effect.Effect.{Effect}
use Rattle.hs_world.specs.declared.loc.Loc.{Loc}
use Rattle.hs_world.specs.declared.loc.Loc.TheVariants as loc
use Rattle.hs_world.specs.declared.loc.Value.{Value}
use Rattle.hs_world.specs.declared.loc.Value.TheVariants as value
use Rattle.hs_world.specs.declared.reply.Reply.{Reply}
use Rattle.hs_world.specs.declared.reply.Request.{Request}
use Rattle.hs_world.specs.declared.var.Var.{Var}
use Rattle.hs_world.specs.declared.world.Limit.{Limit}
use Rattle.hs_world.specs.declared.world.Limit.TheVariants as limit
use Rattle.hs_view.specs.declared.halt.Halt.{Halt}
use Rattle.hs_view.specs.declared.halt.Halt.TheVariants as halt
use Rattle.hs_view.specs.declared.halt.SpentKind.{SpentKind}
use Rattle.hs_view.specs.declared.halt.SpentKind.TheVariants as spent

-- whether a value is of the kind that a location has
abbrev pub is_of : Loc → Value → Bool
is_of (loc.Kind path) (value.Kind kind) = true
is_of (loc.Bytes path) (value.Bytes bytes) = true
is_of (loc.Names path) (value.Names names) = true
is_of (loc.Var name) (value.Var var) = true
is_of (loc.Func name) (value.Func body) = true
is_of loc.Params (value.Params zero params) = true
is_of loc.Status (value.Status status) = true
is_of loc.Cwd (value.Cwd path) = true
is_of loc.Opts (value.Opts opts) = true
is_of loc.Input (value.Input text) = true
is_of loc.Routes (value.Routes routes) = true
is_of loc.Ends (value.Ends routes) = true
is_of loc.Captured (value.Captured text) = true
is_of (loc.Kept n) (value.Kept text) = true
is_of _ _ = false

-- ---- what an outside program is run with

abbrev pub pwd : List ℕ
pwd = 80 ∷ 87 ∷ 68 ∷ []

abbrev pub oldpwd : List ℕ
oldpwd = 79 ∷ 76 ∷ 68 ∷ 80 ∷ 87 ∷ 68 ∷ []

abbrev pub is_passed : List ℕ → Var → Bool
is_passed name var = var.exported && not (same_name name pwd || same_name name oldpwd)

abbrev pub passed_on : Bool → List ℕ → Option (List ℕ) → List (List ℕ × List ℕ) → List (List ℕ × List ℕ)
passed_on true name (Some text) rest = (name, text) ∷ rest
passed_on _ name value rest = rest

-- the exported variables that have a value, but PWD and OLDPWD
abbrev pub exported_in : List (List ℕ × Var) → List (List ℕ × List ℕ)
exported_in [] = []
exported_in (e ∷ es) = passed_on (is_passed e.0 e.1) e.0 e.1.value (exported_in es)

-- The exported variables go in the order of their names, and all of standard input with them (POSIX.1-2017, XCU 2.9.1.1).
abbrev pub request_in : List (List ℕ) → WorldData → Request
request_in argv w = record { argv = argv; env = exported_in (entries w.vars); cwd = w.cwd; input = w.input }

-- ---- what a base tells

-- what came of a run
pub data Answered : Type 0 where
  Replied : Reply → Answered
  -- the files that it left pass the limit of a tree
  TooLarge : Answered
  Failed : Answered

pub record AskedData : Type 0 where
  pub request : Request
  pub answer : Answered

pub record SeenData : Type 0 where
  -- the state, where the base tells it
  pub world : Option WorldData
  -- the runs of programs, in order, where the state is told
  pub asked : List AskedData
  pub writes : Bool
  pub runs : Bool
  -- how many faults there were
  pub faults : ℕ

-- The list of runs gains one entry for a reply, for files past the limit and for a fault, and else none.
abbrev pub entry : List (List ℕ) → WorldData → Result Reply Halt → List AskedData
entry argv w (Ok reply) = record { request = request_in argv w; answer = Replied reply } ∷ []
entry argv w (Err (halt.Spent spent.Tree)) = record { request = request_in argv w; answer = TooLarge } ∷ []
entry argv w (Err halt.Fault) = record { request = request_in argv w; answer = Failed } ∷ []
entry argv w (Err _) = []

abbrev pub Gained : SeenData → SeenData → List (List ℕ) → Result Reply Halt → Type 0
Gained old new argv result = (u : WorldData) → old.world ≡ Some u → new.asked ≡ old.asked ++ entry argv u result

-- What contracts see of all bases of one kind: what each tells, and what effects make of one. What a base that writes keeps beside its
-- state, as streams, it tells by `made` and `tried`.
pub record Shows (B : Type 0) : Type 1 where
  pub tells : B → SeenData
  -- these effects, done one after another, made the second of the first
  pub made : List Effect → B → B → Type 0
  -- this effect, which failed on the way, made the second of the first
  pub tried : Effect → B → B → Type 0
  pub made_none : (b : B) → made [] b b
  pub made_then : (es fs : List Effect) (a b c : B) → made es a b → made fs b c → made (es ++ fs) a c

-- a base of which effects tell no more
abbrev pub alone : {B : Type 0} → (B → SeenData) → Shows B
alone tells = record {
  tells = tells;
  made = λ es a b. Unit {0};
  tried = λ e a b. Unit {0};
  made_none = λ b. tt;
  made_then = λ es fs a b c p q. tt;
}

-- Nothing was done: a state that is told stays, and the base is what no effect made of it.
abbrev pub Still : {B : Type 0} → Shows B → B → B → Type 0
Still s old new = ((s.tells new).world ≡ (s.tells old).world) × ((s.tells old).writes ≡ true → s.made [] old new)

-- After a refusal a base that writes is as it was, or its state has this one effect, which failed on the way to what else there is.
abbrev pub IsLeft : {B : Type 0} → Shows B → Effect → B → B → Type 0
IsLeft s e old new =
    (((s.tells new).world ≡ (s.tells old).world) × s.made [] old new) ⊎ (((s.tells new).world ≡ option_map (Apply e) (s.tells old).world) × s.tried e old new)

-- the state after an effect, if the base writes
abbrev pub pushed : Bool → Effect → Option WorldData → Option WorldData
pushed true e w = option_map (Apply e) w
pushed false e w = w

-- what is used up where a limit of a state would be passed
abbrev pub spent_of : Limit → SpentKind
spent_of limit.Bytes = spent.Bytes
spent_of limit.Tree = spent.Tree
