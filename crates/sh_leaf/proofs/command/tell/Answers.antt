use Rattle.std.proofs.Common.{sym, ap, subst}
use Rattle.hs_view.specs.Acts.{Acts}
use Rattle.hs_view.proofs.Acting.{acts_answer}
use Rattle.sh_leaf.specs.Command.{told}
use Rattle.sh_leaf.specs.Expanding.{Came}
use Rattle.sh_leaf.specs.declared.outcome.Outcome.{Outcome}
use Rattle.sh_leaf.proofs.command.tell.Goals as goal

pub returns-in-Ok : goal.returns-in-Ok
returns-in-Ok g c = acts_answer g.B.Base.seen (told c.args.came) c.args.view.now c.in-Ok.outcome (λ u s. ap (λ (x : Came Outcome). told x u) c.in-Ok.is)

pub returns-in-Err : goal.returns-in-Err
returns-in-Err g c = subst (λ (x : Came Outcome). Acts g.B.Base.seen (told x) c.args.view.now c.fail.new.view c.fail.result) (sym c.in-Err.is) c.fail.ensures
