use Rattle.std.proofs.Common.{List, ℕ, ap, ◌∙◌, refl, sym}
use Rattle.hs_world.specs.declared.effect.Fd.TheVariants.{One}
use Rattle.hs_view.proofs.Acting.{acts_on, acts_memory_on, acts_read_then, acts_unread}
use Rattle.util_common.specs.Operands.{emitted}
use Rattle.util_print.specs.Folder.{folder_written, path_line}
use Rattle.util_print.proofs.folder.write_folder.Goals as goal

pub returns-in_err-path : goal.returns-in_err-path
returns-in_err-path g c =
    let e = c.in_err-path.ensures in
    acts_on g.B.Base.seen folder_written c.args.view.now c.cwd.new.self c.in_err-path.field-0.0 _ c.from_residual.ensures.0 c.from_residual.ensures.1
    (acts_unread g.B.Base.seen folder_written c.args.view.now c.cwd.new.self c.in_err-path.field-0.0 (record { effects = e.effects; keeps = e.keeps; fault = e.fault; trace = e.trace; through = e.through; spent = e.spent; outside = e.outside }) e.world)

pub returns-in_err-line : goal.returns-in_err-line
returns-in_err-line g c =
    let e = c.in_ok-path.ensures in
    acts_read_then g.B.Base.seen folder_written folder_written c.args.view.now c.cwd.new.self c.cwd.new.self _ _ (record { effects = e.effects; keeps = e.keeps; fault = e.fault; trace = e.trace; through = e.through; spent = e.spent; outside = e.outside }) (λ u s. refl)
    (acts_memory_on g.B.Base.seen folder_written c.cwd.new.self _ c.from_residual-in_err-line.ensures.0 c.from_residual-in_err-line.ensures.1)

pub returns : goal.returns
returns g c =
    let e = c.in_ok-path.ensures in
    acts_read_then g.B.Base.seen (emitted One c.in_ok-line.line 0) folder_written c.args.view.now c.cwd.new.self c.emit.new.view _ c.emit.result (record { effects = e.effects; keeps = e.keeps; fault = e.fault; trace = e.trace; through = e.through; spent = e.spent; outside = e.outside })
    (λ u s. ap (λ (t : List ℕ). emitted One t 0 u) (c.in_ok-line.ensures ∙ ap path_line (sym (e.answer u s)))) c.emit.ensures
