use Rattle.std.proofs.Common.{ℕ, sym, ap}
use Rattle.hs_world.specs.World.{WorldData}
use Rattle.hs_view.specs.Acts.{then_by}
use Rattle.hs_view.specs.Steps.{Done}
use Rattle.hs_view.proofs.Acting.{acts_on, acts_read_then, acts_unread}
use Rattle.sh_leaf.specs.Command.{command, command_came, told}
use Rattle.sh_leaf.specs.declared.outcome.Outcome.{Outcome}
use Rattle.sh_leaf.proofs.command.run_simple.Goals as goal

pub returns : goal.returns
returns g c =
    let e = c.in_ok-status.ensures in
    let m : ℕ → WorldData → Done Outcome = λ n w. then_by (command_came c.args.assigns.now c.args.words.now n w) told w in
    acts_read_then g.B.Base.seen (m c.in_ok-status.status) (command c.args.assigns.now c.args.words.now) c.args.view.now c.status.new.self c.run_with_status.new.view _ c.run_with_status.result (record { effects = e.effects; keeps = e.keeps; fault = e.fault; trace = e.trace; through = e.through; spent = e.spent; outside = e.outside })
    (λ u s. ap (λ (n : ℕ). m n u) (sym (e.answer u s))) c.run_with_status.ensures

pub returns-in_err-status : goal.returns-in_err-status
returns-in_err-status g c =
    let e = c.in_err-status.ensures in
    let h = c.in_err-status.field-0.0 in
    acts_on g.B.Base.seen (command c.args.assigns.now c.args.words.now) c.args.view.now c.status.new.self h _ c.from_residual.ensures.0 c.from_residual.ensures.1
    (acts_unread {A = ℕ} g.B.Base.seen (command c.args.assigns.now c.args.words.now) c.args.view.now c.status.new.self h (record { effects = e.effects; keeps = e.keeps; fault = e.fault; trace = e.trace; through = e.through; spent = e.spent; outside = e.outside }) e.world)
