-- What effects make of the parts of a state that a subshell environment gives back. An option says what the effects have set;
-- without it the base's stands.
use Rattle.std.specs.Prelude.{◌≡◌, ℕ, List, None, unwrap_or}
use Rattle.std.specs.FinMap.{empty, get}
use Rattle.hs_world.specs.Paths.{Path}
use Rattle.hs_world.specs.Vars.{VarMap, FuncMap, KeptMap}
use Rattle.hs_world.specs.World.{WorldData}
use Rattle.hs_world.specs.declared.opts.Opts.{Opts}
use Rattle.hs_overlay.specs.declared.scope.Scope.{Scope}

abbrev pub no_scope : Scope
no_scope = record { vars = empty; funcs = empty; params = None; cwd = None; opts = None; kept = empty }

-- These parts of a state, or of what an environment gives back, are so over a base's state.
pub record ScopeOver (s : Scope) (b : WorldData) (v : VarMap) (f : FuncMap) (p : List (List ℕ)) (c : Path) (o : Opts) (k : KeptMap) : Type 0 where
  pub vars : (name : List ℕ) → get v name ≡ unwrap_or (get s.vars name) (get b.vars name)
  pub funcs : (name : List ℕ) → get f name ≡ unwrap_or (get s.funcs name) (get b.funcs name)
  pub params : p ≡ unwrap_or s.params b.params
  pub cwd : c ≡ unwrap_or s.cwd b.cwd
  pub opts : o ≡ unwrap_or s.opts b.opts
  pub kept : (n : ℕ) → get k n ≡ unwrap_or (get s.kept n) (get b.kept n)
