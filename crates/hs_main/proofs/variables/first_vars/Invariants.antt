use Rattle.std.proofs.Common.{◌≡◌, ◌++◌, drop}
use Rattle.hs_main.specs.Start.{first_vars, inherited}
use Rattle.hs_main.proofs.variables.first_vars.Given as goal

-- the entries that are left
abbrev pub invariant-loop-entry : goal.invariant-loop-entry
invariant-loop-entry l = l.vars.items ++ inherited (drop l.entry-index l.env) ≡ first_vars l.env
