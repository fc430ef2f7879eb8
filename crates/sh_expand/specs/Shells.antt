-- Calls of an expansion with effects of the caller in between that leave the shell's variables and parameters as they are.
use Rattle.std.specs.Prelude.{◌≡◌, ℕ, List, [], ◌∷◌, ◌++◌, Option}
use Rattle.hs_world.specs.World.{WorldData, Applied}
use Rattle.hs_world.specs.declared.effect.Effect.{Effect}
use Rattle.sh_param.specs.Plans.{Plan, does, expanded_by, fails, first, gives, stopped, told, wants}
use Rattle.sh_param.specs.Words.{expand, plan_of}
use Rattle.sh_param.specs.declared.answer.Expanded.{Expanded}
use Rattle.sh_param.specs.declared.mode.Context.{Context}
use Rattle.sh_syntax.specs.declared.tree.Word.{Word}
use Rattle.sh_expand.specs.Sums.{sums}

-- What expansions look at is the same: variables, `$0` and the positional parameters.
pub record SameShell (u v : WorldData) : Type 0 where
  pub vars : u.vars ≡ v.vars
  pub zero : u.zero ≡ v.zero
  pub params : u.params ≡ v.params

-- These effects and what follows are the same, and leave the same shell.
pub record SameStep (u v : WorldData) (es fs : List Effect) (p q : Plan) : Type 0 where
  pub effects : es ≡ fs
  pub later : p ≡ q
  pub shell : SameShell (Applied es u) (Applied fs v)

-- A plan that hangs on nothing of the state but the shell.
abbrev pub LooksAtShell : Plan → Type 0
LooksAtShell (gives fs) = Unit {0}
LooksAtShell (fails why) = Unit {0}
LooksAtShell (wants n k) = (out : List ℕ) → LooksAtShell (k out)
LooksAtShell (does es k) = ((u v : WorldData) → SameShell u v → SameStep u v (es u) (es v) (k u) (k v)) × ((u : WorldData) → LooksAtShell (k u))

-- A call that wanted a list, and those behind it, which begin in a state with the same shell.
pub record Turned (p : Plan) (out : List ℕ) (rest : Plan → WorldData → List Effect → Type 0) (w : WorldData) (es : List Effect) : Type 0 where
  pub list : ℕ
  pub later : List ℕ → Plan
  pub reached : (first p w).answer ≡ stopped list later
  pub next : WorldData
  pub same : SameShell (Applied (first p w).effects w) next
  pub own : List Effect
  pub is : es ≡ (first p w).effects ++ own
  pub on : rest (later out) next own

-- Calls with these outputs have these effects of their own, and the last one answers so.
abbrev pub InTurn : Plan → List (List ℕ) → WorldData → List Effect → Expanded → Type 0
InTurn p [] w es e = (es ≡ (first p w).effects) × (e ≡ told (first p w).answer)
InTurn p (out ∷ outs) w es e = Turned p out (λ q v fs. InTurn q outs v fs e) w es

-- All of them together have the effects and the answer that the plan has where nothing comes in between.
abbrev pub AreInTurn : Type 0
AreInTurn = (p : Plan) → LooksAtShell p → (outs : List (List ℕ)) (w : WorldData) (es : List Effect) (e : Expanded) → InTurn p outs w es e → expanded_by p outs w ≡ record { effects = es; answer = e }

-- the same of words
abbrev pub AreWordsInTurn : Type 0
AreWordsInTurn = (words : List Word) (c : Context) (status : Option ℕ) (outs : List (List ℕ)) (w : WorldData) (es : List Effect) (e : Expanded)
    → InTurn (plan_of sums words c status) outs w es e → expand sums words c status outs w ≡ record { effects = es; answer = e }
