use Rattle.std.proofs.Common.{not, sym, ap}
use Rattle.std.specs.Prelude.{Ok, Err}
use Rattle.hs_world.specs.World.{WorldData}
use Rattle.hs_view.specs.Acts.{answering}
use Rattle.hs_view.specs.Steps.{nothing}
use Rattle.hs_view.proofs.Acting.{acts_answer, acts_answering, acts_answering_halt, acts_as, acts_on}
use Rattle.util_test.specs.Testing.{has_named, holds}
use Rattle.util_test.specs.declared.expression.Asked.{Asked}
use Rattle.util_test.specs.declared.expression.Asked.TheVariants.{Has}
use Rattle.util_test.proofs.testing.holds.Goals as goal

pub returns-in-Known : goal.returns-in-Known
returns-in-Known g c =
    acts_answer g.B.Base.seen (λ (w : WorldData). nothing (holds c.args.asked.now w) w) c.args.view.now c.in-Known.answer (λ u s. ap (λ (x : Asked). nothing (holds x u) u) c.in-Known.is)

pub returns-in-Has : goal.returns-in-Has
returns-in-Has g c =
    acts_as g.B.Base.seen (λ (w : WorldData). nothing (holds (Has c.in-Has.property c.in-Has.word) w) w) (λ (w : WorldData). nothing (holds c.args.asked.now w) w) c.args.view.now c.has_named.new.view c.has_named.result
    (λ u s. ap (λ (x : Asked). nothing (holds x u) u) (sym c.in-Has.is)) c.has_named.ensures

pub returns-in_err-has_named-in-Lacks : goal.returns-in_err-has_named-in-Lacks
returns-in_err-has_named-in-Lacks g c =
    let a = c.args.view.now in
    let b = c.has_named-in-Lacks.new.view in
    let h = c.in_err-has_named-in-Lacks.field-0.0 in
    let m = λ (w : WorldData). nothing (has_named c.in-Lacks.property c.in-Lacks.word w) w in
    let n = λ (w : WorldData). nothing (holds c.args.asked.now w) w in
    acts_on g.B.Base.seen n a b h _ c.from_residual.ensures.0 c.from_residual.ensures.1
    (acts_as g.B.Base.seen (λ (w : WorldData). answering not (m w)) n a b (Err h) (λ u s. ap (λ (x : Asked). nothing (holds x u) u) (sym c.in-Lacks.is)) (acts_answering_halt g.B.Base.seen not m a b h c.in_err-has_named-in-Lacks.ensures))

pub returns-in_ok-has_named-in-Lacks : goal.returns-in_ok-has_named-in-Lacks
returns-in_ok-has_named-in-Lacks g c =
    let a = c.args.view.now in
    let b = c.has_named-in-Lacks.new.view in
    let x = c.in_ok-has_named-in-Lacks.field-0 in
    let m = λ (w : WorldData). nothing (has_named c.in-Lacks.property c.in-Lacks.word w) w in
    acts_as g.B.Base.seen (λ (w : WorldData). answering not (m w)) (λ (w : WorldData). nothing (holds c.args.asked.now w) w) a b (Ok (not x)) (λ u s. ap (λ (y : Asked). nothing (holds y u) u) (sym c.in-Lacks.is))
    (acts_answering g.B.Base.seen not m a b x c.in_ok-has_named-in-Lacks.ensures)
