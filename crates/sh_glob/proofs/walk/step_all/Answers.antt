use Rattle.std.proofs.Common.{List, ◌+◌, ◌++◌, drop, subst}
use Rattle.std.proofs.lemmas.List.{drop_all}
use Rattle.hs_world.specs.World.{WorldData}
use Rattle.hs_view.specs.Acts.{Loops}
use Rattle.hs_view.specs.Steps.{nothing}
use Rattle.hs_view.proofs.Acting.{acts_on}
use Rattle.sh_glob.specs.declared.place.Place.{Place}
use Rattle.sh_glob.specs.Places.{on_from, on_from_all, slashed}
use Rattle.sh_glob.proofs.Acted.{at_hand, gathers_end, gathers_halt, gathers_start, gathers_step}
use Rattle.sh_glob.proofs.walk.step_all.Goals as goal

pub loop-from-init : goal.loop-from-init
loop-from-init g c = gathers_start g.B.Base.seen (λ (w : WorldData). on_from w.tree slashed c.args.part.now) c.new-all.result c.args.places.now c.args.view.now c.new-all.ensures

pub returns-in_err-all : goal.returns-in_err-all
returns-in_err-all g c =
    let f = λ (w : WorldData). on_from w.tree slashed c.args.part.now in
    let whole = λ (w : WorldData). nothing (on_from_all w.tree slashed c.args.part.now c.args.places.now) w in
    let start = c.args.view.now in
    let here = c.loop-from.view in
    let next = c.step.new.view in
    let i = c.loop-from.from-index in
    let x = c.from-item.result in
    let all = c.loop-from.all in
    let rest = drop (i + 1) c.args.places.now in
    let l = subst (λ (ps : List Place). Loops g.B.Base.seen whole (λ (w : WorldData). nothing (all ++ on_from_all w.tree slashed c.args.part.now ps) w) start here) (at_hand c.args.places.now i x c.loop-from-test.true c.from-item.is) c.loop-from.invariant in
    acts_on g.B.Base.seen whole start next c.in_err-all.field-0.0 _ c.from_residual.ensures.0 c.from_residual.ensures.1
    (gathers_halt g.B.Base.seen whole f all x rest start here next c.in_err-all.field-0.0 l c.in_err-all.ensures)

pub loop-from-preserved : goal.loop-from-preserved
loop-from-preserved g c =
    let f = λ (w : WorldData). on_from w.tree slashed c.args.part.now in
    let whole = λ (w : WorldData). nothing (on_from_all w.tree slashed c.args.part.now c.args.places.now) w in
    let start = c.args.view.now in
    let here = c.loop-from.view in
    let next = c.step.new.view in
    let i = c.loop-from.from-index in
    let x = c.from-item.result in
    let all = c.loop-from.all in
    let rest = drop (i + 1) c.args.places.now in
    let l = subst (λ (ps : List Place). Loops g.B.Base.seen whole (λ (w : WorldData). nothing (all ++ on_from_all w.tree slashed c.args.part.now ps) w) start here) (at_hand c.args.places.now i x c.loop-from-test.true c.from-item.is) c.loop-from.invariant in
    gathers_step g.B.Base.seen whole f all c.in_ok-all.all x rest start here next l c.in_ok-all.ensures

pub returns : goal.returns
returns g c =
    let f = λ (w : WorldData). on_from w.tree slashed c.args.part.now in
    let whole = λ (w : WorldData). nothing (on_from_all w.tree slashed c.args.part.now c.args.places.now) w in
    let all = c.loop-from.all in
    gathers_end g.B.Base.seen whole f all c.args.view.now c.loop-from.view
    (subst (λ (ps : List Place). Loops g.B.Base.seen whole (λ (w : WorldData). nothing (all ++ on_from_all w.tree slashed c.args.part.now ps) w) c.args.view.now c.loop-from.view) (drop_all c.loop-from.from-index c.args.places.now c.loop-from-test.false) c.loop-from.invariant)
