use Rattle.std.proofs.Common.{List, ◌+◌, drop, ap, subst}
use Rattle.std.specs.Prelude.{Ok, Err}
use Rattle.std.proofs.lemmas.List.{drop_all}
use Rattle.hs_world.specs.World.{WorldData}
use Rattle.hs_view.specs.Acts.{Acts, Loops}
use Rattle.hs_view.specs.Steps.{nothing}
use Rattle.hs_view.proofs.Acting.{acts_on, loops_end, loops_halt, loops_start, loops_step}
use Rattle.sh_glob.specs.declared.part.Part.{Part}
use Rattle.sh_glob.specs.declared.place.Place.{Place}
use Rattle.sh_glob.specs.Places.{on_from_all, reached, slashed}
use Rattle.sh_glob.proofs.Acted.{at_hand}
use Rattle.sh_glob.proofs.walk.reach.Goals as goal

pub loop-part-init : goal.loop-part-init
loop-part-init g c = loops_start g.B.Base.seen (λ (w : WorldData). nothing (reached w.tree c.args.parts.now c.args.places) w) c.args.view.now

pub returns-in_err-all : goal.returns-in_err-all
returns-in_err-all g c =
    let whole = λ (w : WorldData). nothing (reached w.tree c.args.parts.now c.args.places) w in
    let start = c.args.view.now in
    let here = c.loop-part.view in
    let next = c.step_all.new.view in
    let i = c.loop-part.part-index in
    let x = c.part-item.result in
    let all = c.loop-part.all in
    let rest = drop (i + 1) c.args.parts.now in
    let l = subst (λ (ps : List Part). Loops g.B.Base.seen whole (λ (w : WorldData). nothing (reached w.tree ps all) w) start here) (at_hand c.args.parts.now i x c.loop-part-test.true c.part-item.is) c.loop-part.invariant in
    let one = λ (w : WorldData). nothing (on_from_all w.tree slashed x all) w in
    let h = c.in_err-all.field-0.0 in
    acts_on g.B.Base.seen whole start next h _ c.from_residual.ensures.0 c.from_residual.ensures.1
    (loops_halt g.B.Base.seen whole one (λ (ps : List Place) (w : WorldData). nothing (reached w.tree rest ps) w) start here next h l
    (subst (λ (ps : List Place). Acts {A = List Place} g.B.Base.seen (λ (w : WorldData). nothing (on_from_all w.tree slashed x ps) w) here next (Err h)) c.as_slice.ensures c.in_err-all.ensures))

pub loop-part-preserved : goal.loop-part-preserved
loop-part-preserved g c =
    let whole = λ (w : WorldData). nothing (reached w.tree c.args.parts.now c.args.places) w in
    let start = c.args.view.now in
    let here = c.loop-part.view in
    let next = c.step_all.new.view in
    let i = c.loop-part.part-index in
    let x = c.part-item.result in
    let all = c.loop-part.all in
    let rest = drop (i + 1) c.args.parts.now in
    let l = subst (λ (ps : List Part). Loops g.B.Base.seen whole (λ (w : WorldData). nothing (reached w.tree ps all) w) start here) (at_hand c.args.parts.now i x c.loop-part-test.true c.part-item.is) c.loop-part.invariant in
    let one = λ (w : WorldData). nothing (on_from_all w.tree slashed x all) w in
    let more = c.in_ok-all.all in
    loops_step g.B.Base.seen whole one (λ (ps : List Place) (w : WorldData). nothing (reached w.tree rest ps) w) start here next more l
    (subst (λ (ps : List Place). Acts g.B.Base.seen (λ (w : WorldData). nothing (on_from_all w.tree slashed x ps) w) here next (Ok more)) c.as_slice.ensures c.in_ok-all.ensures)

pub returns : goal.returns
returns g c =
    let all = c.loop-part.all in
    loops_end g.B.Base.seen (λ (w : WorldData). nothing (reached w.tree c.args.parts.now c.args.places) w) (λ (w : WorldData). nothing (reached w.tree (drop c.loop-part.part-index c.args.parts.now) all) w) c.args.view.now c.loop-part.view all
    (λ u. ap (λ (ps : List Part). nothing (reached u.tree ps all) u) (drop_all c.loop-part.part-index c.args.parts.now c.loop-part-test.false)) c.loop-part.invariant
