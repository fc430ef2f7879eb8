use Rattle.std.proofs.Common.{List, ℕ, subst}
use Rattle.std.specs.Prelude.{Ok, Err}
use Rattle.hs_world.specs.declared.effect.Fd.TheVariants.{One}
use Rattle.hs_view.specs.Acts.{Acts}
use Rattle.hs_view.proofs.Acting.{acts_first, acts_on, acts_then}
use Rattle.util_common.specs.Operands.{emitted}
use Rattle.util_text.specs.Teeing.{copied, files_written}
use Rattle.util_text.proofs.teeing.copy_text.Goals as goal

pub returns-in_err-status : goal.returns-in_err-status
returns-in_err-status g c =
    let append = c.args.copied.now.append in
    let text = c.args.copied.now.text in
    let next = c.emit.new.view in
    let h = c.in_err-status.field-0.0 in
    acts_on g.B.Base.seen (copied append c.args.words.now text) c.args.view.now next h _ c.from_residual-in_err-status.ensures.0 c.from_residual-in_err-status.ensures.1
    (acts_first g.B.Base.seen (emitted One text 0) (λ (status : ℕ). files_written append text status c.args.words.now) c.args.view.now next h
    (subst (λ (t : List ℕ). Acts g.B.Base.seen (emitted One t 0) c.args.view.now next (Err h)) c.in_ok-text.ensures.cases c.in_err-status.ensures))

pub returns : goal.returns
returns g c =
    let append = c.args.copied.now.append in
    let text = c.args.copied.now.text in
    let x = c.in_ok-status.status in
    acts_then g.B.Base.seen (emitted One text 0) (λ (status : ℕ). files_written append text status c.args.words.now) c.args.view.now c.emit.new.view c.write_files.new.view x c.write_files.result
    (subst (λ (t : List ℕ). Acts g.B.Base.seen (emitted One t 0) c.args.view.now c.emit.new.view (Ok x)) c.in_ok-text.ensures.cases c.in_ok-status.ensures) c.write_files.ensures
