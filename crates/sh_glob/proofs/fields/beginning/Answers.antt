use Rattle.std.proofs.Common.{sym, ap, ◌∙◌}
use Rattle.hs_world.specs.Paths.{Path, begins_at}
use Rattle.hs_world.specs.World.{WorldData}
use Rattle.hs_view.specs.Steps.{nothing}
use Rattle.hs_view.proofs.Acting.{acts_answer, acts_on, acts_read, acts_unread}
use Rattle.sh_glob.specs.Parts.{bytes_of}
use Rattle.sh_glob.proofs.Found.{begins_here, begins_root}
use Rattle.sh_glob.proofs.fields.beginning.Goals as goal

pub returns-then-begins_with_slash : goal.returns-then-begins_with_slash
returns-then-begins_with_slash g c =
    acts_answer g.B.Base.seen (λ (w : WorldData). nothing (begins_at w.cwd (bytes_of c.args.field.now)) w) c.args.view.now c.root.result
    (λ u s. ap (λ (p : Path). nothing p u) (begins_root u.cwd c.args.field.now (sym c.begins_with_slash.ensures ∙ c.if-begins_with_slash.true) ∙ sym c.root.ensures))

pub returns-in_err-cwd : goal.returns-in_err-cwd
returns-in_err-cwd g c =
    let e = c.in_err-cwd.ensures in
    let m = λ (w : WorldData). nothing (begins_at w.cwd (bytes_of c.args.field.now)) w in
    acts_on g.B.Base.seen m c.args.view.now c.cwd.new.self c.in_err-cwd.field-0.0 _ c.from_residual.ensures.0 c.from_residual.ensures.1
    (acts_unread g.B.Base.seen m c.args.view.now c.cwd.new.self c.in_err-cwd.field-0.0 (record { effects = e.effects; keeps = e.keeps; fault = e.fault; trace = e.trace; through = e.through; spent = e.spent; outside = e.outside }) e.world)

pub returns : goal.returns
returns g c =
    let e = c.in_ok-cwd.ensures in
    acts_read g.B.Base.seen (λ (w : WorldData). nothing (begins_at w.cwd (bytes_of c.args.field.now)) w) c.args.view.now c.cwd.new.self _ c.in_ok-cwd.cwd (record { effects = e.effects; keeps = e.keeps; fault = e.fault; trace = e.trace; through = e.through; spent = e.spent; outside = e.outside })
    (λ u s. ap (λ (p : Path). nothing p u) (begins_here u.cwd c.args.field.now (sym c.begins_with_slash.ensures ∙ c.if-begins_with_slash.false) ∙ e.answer u s))
