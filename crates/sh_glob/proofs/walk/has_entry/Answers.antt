use Rattle.std.proofs.Common.{Bool, not, sym, ap, ◌∙◌}
use Rattle.hs_world.specs.Files.{entry_at, is_absent}
use Rattle.hs_world.specs.World.{WorldData}
use Rattle.hs_view.specs.Steps.{nothing}
use Rattle.hs_view.proofs.Acting.{acts_on, acts_read, acts_unread}
use Rattle.sh_glob.specs.Places.{is_absent_kind}
use Rattle.sh_glob.proofs.Found.{absent_kind}
use Rattle.sh_glob.proofs.walk.has_entry.Goals as goal

pub returns-in_err-kind : goal.returns-in_err-kind
returns-in_err-kind g c =
    let e = c.in_err-kind.ensures in
    let m = λ (w : WorldData). nothing (not (is_absent (entry_at w.tree c.args.path.now))) w in
    acts_on g.B.Base.seen m c.args.view.now c.kind.new.self c.in_err-kind.field-0.0 _ c.from_residual.ensures.0 c.from_residual.ensures.1
    (acts_unread g.B.Base.seen m c.args.view.now c.kind.new.self c.in_err-kind.field-0.0 (record { effects = e.effects; keeps = e.keeps; fault = e.fault; trace = e.trace; through = e.through; spent = e.spent; outside = e.outside }) e.world)

pub returns : goal.returns
returns g c =
    let e = c.in_ok-kind.ensures in
    acts_read g.B.Base.seen (λ (w : WorldData). nothing (not (is_absent (entry_at w.tree c.args.path.now))) w) c.args.view.now c.kind.new.self _ (not c.is_absent_kind.result) (record { effects = e.effects; keeps = e.keeps; fault = e.fault; trace = e.trace; through = e.through; spent = e.spent; outside = e.outside })
    (λ u s. ap (λ (b : Bool). nothing (not b) u) (absent_kind (entry_at u.tree c.args.path.now) ∙ ap is_absent_kind (e.answer u s) ∙ sym c.is_absent_kind.ensures))
