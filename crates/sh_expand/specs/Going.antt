-- What contracts see of an expansion between two calls: what is left to do.
use Rattle.std.specs.Prelude.{ℕ, List, [], Option, Some, None}
use Rattle.sh_param.specs.Plans.{Plan, fails}

pub data Going : Type 0 where
  -- before its beginning
  fresh : Plan → Going
  -- behind a command substitution, whose output is waited for
  waiting : (List ℕ → Plan) → Going
  ended : Going

-- An output is given exactly where one is waited for.
abbrev pub IsReady : Going → Option (List ℕ) → Type 0
IsReady (fresh p) None = Unit {0}
IsReady (fresh p) (Some out) = ⊥
IsReady (waiting k) None = ⊥
IsReady (waiting k) (Some out) = Unit {0}
IsReady ended out = ⊥

-- what is left with that output
abbrev pub plan_at : Going → Option (List ℕ) → Plan
plan_at (fresh p) out = p
plan_at (waiting k) (Some out) = k out
plan_at (waiting k) None = fails []
plan_at ended out = fails []
