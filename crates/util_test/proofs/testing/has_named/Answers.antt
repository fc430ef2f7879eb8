use Rattle.std.proofs.Common.{Bool, ap, refl}
use Rattle.hs_world.specs.World.{WorldData}
use Rattle.hs_view.specs.Steps.{nothing}
use Rattle.hs_view.proofs.Acting.{acts_on, acts_memory_on, acts_read_then, acts_unread}
use Rattle.util_test.specs.Testing.{entry_in, has, has_named}
use Rattle.util_test.proofs.Tested.{named}
use Rattle.util_test.proofs.testing.has_named.Goals as goal

pub returns-in_err-cwd : goal.returns-in_err-cwd
returns-in_err-cwd g c =
    let e = c.in_err-cwd.ensures in
    let m = λ (w : WorldData). nothing (has_named c.args.property c.args.word.now w) w in
    acts_on g.B.Base.seen m c.args.view.now c.cwd.new.self c.in_err-cwd.field-0.0 _ c.from_residual.ensures.0 c.from_residual.ensures.1
    (acts_unread g.B.Base.seen m c.args.view.now c.cwd.new.self c.in_err-cwd.field-0.0 (record { effects = e.effects; keeps = e.keeps; fault = e.fault; trace = e.trace; through = e.through; spent = e.spent; outside = e.outside }) e.world)

pub returns-in_err-path : goal.returns-in_err-path
returns-in_err-path g c =
    let e = c.in_ok-cwd.ensures in
    let m = λ (w : WorldData). nothing (has_named c.args.property c.args.word.now w) w in
    acts_read_then g.B.Base.seen m m c.args.view.now c.cwd.new.self c.cwd.new.self _ _ (record { effects = e.effects; keeps = e.keeps; fault = e.fault; trace = e.trace; through = e.through; spent = e.spent; outside = e.outside }) (λ u s. refl)
    (acts_memory_on g.B.Base.seen m c.cwd.new.self _ c.from_residual-in_err-path.ensures.0 c.from_residual-in_err-path.ensures.1)

pub returns : goal.returns
returns g c =
    let e = c.in_ok-cwd.ensures in
    acts_read_then g.B.Base.seen (λ (w : WorldData). nothing (has c.args.property (entry_in w.tree c.in_ok-path.path)) w) (λ (w : WorldData). nothing (has_named c.args.property c.args.word.now w) w) c.args.view.now c.cwd.new.self c.has_in.new.view _
    c.has_in.result (record { effects = e.effects; keeps = e.keeps; fault = e.fault; trace = e.trace; through = e.through; spent = e.spent; outside = e.outside })
    (λ u s. ap (λ (x : Bool). nothing x u) (named c.args.property u.tree u.cwd c.in_ok-cwd.cwd c.args.word.now c.as_slice.result.now c.in_ok-path.path (e.answer u s) c.as_slice.ensures c.in_ok-path.ensures))
    c.has_in.ensures
