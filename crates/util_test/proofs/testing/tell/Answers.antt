use Rattle.hs_world.specs.World.{WorldData}
use Rattle.std.proofs.Common.{ℕ, sym, subst}
use Rattle.std.specs.Prelude.{Ok}
use Rattle.hs_view.specs.Acts.{Acts}
use Rattle.hs_view.specs.Steps.{nothing}
use Rattle.hs_view.proofs.Acting.{acts_on, acts_answering, acts_answering_halt}
use Rattle.util_test.specs.Testing.{holds, status_of}
use Rattle.util_test.proofs.testing.tell.Goals as goal

pub returns-in_err-answer : goal.returns-in_err-answer
returns-in_err-answer g c =
    let m = λ (w : WorldData). nothing (holds c.args.asked.now w) w in
    acts_on g.B.Base.seen (λ (w : WorldData). nothing (status_of (holds c.args.asked.now w)) w) c.args.view.now c.holds.new.view c.in_err-answer.field-0.0 _ c.from_residual.ensures.0 c.from_residual.ensures.1
    (acts_answering_halt g.B.Base.seen status_of m c.args.view.now c.holds.new.view c.in_err-answer.field-0.0 c.in_err-answer.ensures)

pub returns : goal.returns
returns g c =
    let m = λ (w : WorldData). nothing (holds c.args.asked.now w) w in
    subst (λ (x : ℕ). Acts g.B.Base.seen (λ (w : WorldData). nothing (status_of (holds c.args.asked.now w)) w) c.args.view.now c.holds.new.view (Ok x)) (sym c.status_of.ensures)
    (acts_answering g.B.Base.seen status_of m c.args.view.now c.holds.new.view c.in_ok-answer.answer c.in_ok-answer.ensures)
