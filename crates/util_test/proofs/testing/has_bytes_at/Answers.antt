use Rattle.std.proofs.Common.{sym, ap, ◌∙◌}
use Rattle.std.specs.Prelude.{Bool}
use Rattle.hs_world.specs.Files.{bytes_of, entry_at}
use Rattle.hs_world.specs.World.{WorldData}
use Rattle.hs_view.specs.Steps.{nothing}
use Rattle.hs_view.proofs.Acting.{acts_on, acts_read, acts_unread}
use Rattle.util_test.specs.Testing.{has_bytes}
use Rattle.util_test.proofs.testing.has_bytes_at.Goals as goal

pub returns-in_err-bytes : goal.returns-in_err-bytes
returns-in_err-bytes g c =
    let e = c.in_err-bytes.ensures in
    let m = λ (w : WorldData). nothing (has_bytes (bytes_of (entry_at w.tree c.args.path.now))) w in
    acts_on g.B.Base.seen m c.args.view.now c.bytes.new.self c.in_err-bytes.field-0.0 _ c.from_residual.ensures.0 c.from_residual.ensures.1
    (acts_unread g.B.Base.seen m c.args.view.now c.bytes.new.self c.in_err-bytes.field-0.0 (record { effects = e.effects; keeps = e.keeps; fault = e.fault; trace = e.trace; through = e.through; spent = e.spent; outside = e.outside }) e.world)

pub returns : goal.returns
returns g c =
    let e = c.in_ok-bytes.ensures in
    acts_read g.B.Base.seen (λ (w : WorldData). nothing (has_bytes (bytes_of (entry_at w.tree c.args.path.now))) w) c.args.view.now c.bytes.new.self _ c.has_bytes.result (record { effects = e.effects; keeps = e.keeps; fault = e.fault; trace = e.trace; through = e.through; spent = e.spent; outside = e.outside })
    (λ u s. ap (λ (x : Bool). nothing x u) (ap has_bytes (e.answer u s) ∙ sym c.has_bytes.ensures))
