use Rattle.std.proofs.Common.{ap, ◌∙◌, refl, sym}
use Rattle.std.specs.Prelude.{Option}
use Rattle.hs_world.specs.Paths.{Path, resolve}
use Rattle.hs_view.proofs.Acting.{acts_on, acts_memory_on, acts_read_then, acts_unread}
use Rattle.util_lines.specs.Filing.{file_written, path_written}
use Rattle.util_lines.proofs.filing.write_file.Goals as goal

pub returns-in_err-cwd : goal.returns-in_err-cwd
returns-in_err-cwd g c =
    let e = c.in_err-cwd.ensures in
    let m = file_written c.args.output.now.text c.args.word.now c.args.output.now.status in
    acts_on g.B.Base.seen m c.args.view.now c.cwd.new.self c.in_err-cwd.field-0.0 _ c.from_residual.ensures.0 c.from_residual.ensures.1
    (acts_unread g.B.Base.seen m c.args.view.now c.cwd.new.self c.in_err-cwd.field-0.0 (record { effects = e.effects; keeps = e.keeps; fault = e.fault; trace = e.trace; through = e.through; spent = e.spent; outside = e.outside }) e.world)

pub returns-in_err-path : goal.returns-in_err-path
returns-in_err-path g c =
    let e = c.in_ok-cwd.ensures in
    let m = file_written c.args.output.now.text c.args.word.now c.args.output.now.status in
    acts_read_then g.B.Base.seen m m c.args.view.now c.cwd.new.self c.cwd.new.self _ _ (record { effects = e.effects; keeps = e.keeps; fault = e.fault; trace = e.trace; through = e.through; spent = e.spent; outside = e.outside }) (λ u s. refl)
    (acts_memory_on g.B.Base.seen m c.cwd.new.self _ c.from_residual-in_err-path.ensures.0 c.from_residual-in_err-path.ensures.1)

pub returns : goal.returns
returns g c =
    let e = c.in_ok-cwd.ensures in
    let output = c.args.output.now in
    let word = c.args.word.now in
    acts_read_then g.B.Base.seen (path_written output.text word c.args.output.now.status c.in_ok-path.path) (file_written output.text word c.args.output.now.status) c.args.view.now c.cwd.new.self c.write_path.new.view _ c.write_path.result
    (record { effects = e.effects; keeps = e.keeps; fault = e.fault; trace = e.trace; through = e.through; spent = e.spent; outside = e.outside })
    (λ u s.
    ap (λ (o : Option Path). path_written output.text word c.args.output.now.status o u)
    (c.in_ok-path.ensures ∙ ap (resolve c.in_ok-cwd.cwd) c.as_slice.ensures ∙ ap (λ (p : Path). resolve p word) (sym (e.answer u s)))) c.write_path.ensures
