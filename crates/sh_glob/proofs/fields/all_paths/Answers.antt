use Rattle.std.proofs.Common.{List, ℕ, Bool, ◌+◌, ◌++◌, drop, subst}
use Rattle.std.proofs.lemmas.List.{drop_all}
use Rattle.hs_world.specs.World.{WorldData}
use Rattle.hs_view.specs.Acts.{Loops}
use Rattle.hs_view.specs.Steps.{nothing}
use Rattle.hs_view.proofs.Acting.{acts_on}
use Rattle.sh_glob.specs.Paths.{field_paths, paths_done, paths_of}
use Rattle.sh_glob.proofs.Acted.{at_hand, gathers_end, gathers_halt, gathers_start, gathers_step}
use Rattle.sh_glob.proofs.fields.all_paths.Goals as goal

pub loop-field-init : goal.loop-field-init
loop-field-init g c = gathers_start g.B.Base.seen field_paths c.new-all.result c.args.fields.now c.args.view.now c.new-all.ensures

pub returns-in_err-all : goal.returns-in_err-all
returns-in_err-all g c =
    let fields = c.args.fields.now in
    let start = c.args.view.now in
    let here = c.loop-field.view in
    let next = c.add_paths.new.view in
    let i = c.loop-field.field-index in
    let x = c.field-item.result in
    let all = c.loop-field.all in
    let rest = drop (i + 1) fields in
    let l = subst (λ (fs : List (List (ℕ × Bool))). Loops g.B.Base.seen (paths_done fields) (λ (w : WorldData). nothing (all ++ paths_of w fs) w) start here) (at_hand fields i x c.loop-field-test.true c.field-item.is) c.loop-field.invariant in
    acts_on g.B.Base.seen (paths_done fields) start next c.in_err-all.field-0.0 _ c.from_residual.ensures.0 c.from_residual.ensures.1
    (gathers_halt g.B.Base.seen (paths_done fields) field_paths all x rest start here next c.in_err-all.field-0.0 l c.in_err-all.ensures)

pub loop-field-preserved : goal.loop-field-preserved
loop-field-preserved g c =
    let fields = c.args.fields.now in
    let start = c.args.view.now in
    let here = c.loop-field.view in
    let next = c.add_paths.new.view in
    let i = c.loop-field.field-index in
    let x = c.field-item.result in
    let all = c.loop-field.all in
    let rest = drop (i + 1) fields in
    let l = subst (λ (fs : List (List (ℕ × Bool))). Loops g.B.Base.seen (paths_done fields) (λ (w : WorldData). nothing (all ++ paths_of w fs) w) start here) (at_hand fields i x c.loop-field-test.true c.field-item.is) c.loop-field.invariant in
    gathers_step g.B.Base.seen (paths_done fields) field_paths all c.in_ok-all.all x rest start here next l c.in_ok-all.ensures

pub returns : goal.returns
returns g c =
    let fields = c.args.fields.now in
    let all = c.loop-field.all in
    gathers_end g.B.Base.seen (paths_done fields) field_paths all c.args.view.now c.loop-field.view
    (subst (λ (fs : List (List (ℕ × Bool))). Loops g.B.Base.seen (paths_done fields) (λ (w : WorldData). nothing (all ++ paths_of w fs) w) c.args.view.now c.loop-field.view) (drop_all c.loop-field.field-index fields c.loop-field-test.false) c.loop-field.invariant)
