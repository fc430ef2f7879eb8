use Rattle.std.proofs.Common.{◌≡◌, ℕ, ◌+◌, ◌<◌, ◌≤◌, Bool, true, false, List, [], ◌∷◌, ◌++◌, map, refl, sym, ap, ◌∙◌, subst, arith}
use Rattle.std.specs.Prelude.{Option, Some, None, Result, Ok, Err}
use Rattle.sh_expand.proofs.Steps.{status_given, status_read}
use Rattle.sh_expand.proofs.expansion.status_of.Goals as goal

pub returns-in-Some : goal.returns-in-Some
returns-in-Some g c = status_given g.B.Base.seen c.args.given c.args.view.now c.in-Some.status c.in-Some.is

pub returns-in-None : goal.returns-in-None
returns-in-None g c =
    let e = c.status.ensures in
    status_read g.B.Base.seen c.args.given c.args.view.now c.status.new.self c.status.result c.in-None.is (record { effects = e.effects; keeps = e.keeps; fault = e.fault; trace = e.trace; through = e.through; spent = e.spent; outside = e.outside }) e.world e.answer
