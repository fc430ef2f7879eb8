use Rattle.std.proofs.Common.{List, ℕ, subst}
use Rattle.hs_view.specs.Acts.{Acts}
use Rattle.hs_view.proofs.Acting.{acts_memory_on}
use Rattle.sh_leaf.specs.Expanding.{lines_of, taken_away}
use Rattle.sh_leaf.proofs.measuring.measure_long.Goals as goal

pub returns-in_err-lines : goal.returns-in_err-lines
returns-in_err-lines g c = acts_memory_on g.B.Base.seen (taken_away (lines_of c.args.texts.now)) c.args.view.now _ c.from_residual.ensures.0 c.from_residual.ensures.1

pub returns : goal.returns
returns g c = subst (λ (t : List ℕ). Acts g.B.Base.seen (taken_away t) c.args.view.now c.put_and_take.new.view c.put_and_take.result) c.in_ok-lines.ensures c.put_and_take.ensures
