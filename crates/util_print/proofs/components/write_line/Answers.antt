use Rattle.std.proofs.Common.{List, ℕ, sym, ap, refl, subst}
use Rattle.std.specs.Prelude.{Result}
use Rattle.hs_world.specs.declared.effect.Fd.TheVariants.{One}
use Rattle.hs_view.proofs.Acting.{acts_as}
use Rattle.util_common.specs.Operands.{emitted}
use Rattle.util_common.specs.Words.{Answers}
use Rattle.util_common.specs.declared.words.WordErr.{WordErr}
use Rattle.util_common.proofs.Refusing.{blamed}
use Rattle.util_print.specs.Components.{Line, line_written}
use Rattle.util_print.proofs.components.write_line.Goals as goal

pub returns-in-Ok : goal.returns-in-Ok
returns-in-Ok g c = λ wanted a.
    let e = subst (λ (r : Result (List ℕ) WordErr). Answers {X = List ℕ} r wanted) c.in-Ok.is a in
    acts_as g.B.Base.seen (emitted One c.in-Ok.line 0) (line_written c.args.utility.now wanted) c.args.view.now c.emit.new.view c.emit.result (λ u s. ap (λ (x : Line). line_written c.args.utility.now x u) (sym e)) c.emit.ensures

pub returns-in-Err : goal.returns-in-Err
returns-in-Err g c = λ wanted a.
    c.refuse_words.ensures (line_written c.args.utility.now wanted)
    (blamed (line_written c.args.utility.now) c.args.utility.now c.in-Err.err wanted (λ why w. refl) (subst (λ (r : Result (List ℕ) WordErr). Answers {X = List ℕ} r wanted) c.in-Err.is a))
