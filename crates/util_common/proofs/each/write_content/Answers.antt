use Rattle.std.proofs.Common.{List, ℕ, [], ◌∷◌, ◌++◌, subst}
use Rattle.hs_world.specs.declared.effect.Effect.TheVariants.{Emit}
use Rattle.hs_world.specs.declared.effect.Fd.TheVariants.{One}
use Rattle.hs_view.specs.Acts.{Acts, only}
use Rattle.hs_view.specs.declared.halt.Halt.TheVariants as halt
use Rattle.hs_view.proofs.Acting.{acts_memory}
use Rattle.util_common.specs.Operands.{content_written, progress_of}
use Rattle.util_common.specs.declared.content.Content.TheVariants.{Bytes}
use Rattle.util_common.proofs.Filters.{filtered_emit, filtered_on}
use Rattle.util_common.proofs.each.write_content.Goals as goal

pub returns-in_err-out : goal.returns-in_err-out
returns-in_err-out g c = λ utility text before s.
    let m = content_written utility text (progress_of before c.args.status) c.args.word.now (Bytes c.args.bytes) in
    filtered_on (λ (b : List (List ℕ)). g.F.Filter.writes c.filter.new.self text b) g.B.Base.seen m c.args.view.now c.args.view.now halt.NoMemory _ c.from_residual.ensures.0 c.from_residual.ensures.1 (acts_memory g.B.Base.seen m c.args.view.now)

pub returns : goal.returns
returns g c = λ utility text before s.
    let e = c.in_ok-out.ensures in
    filtered_emit (λ (b : List (List ℕ)). g.F.Filter.writes c.filter.new.self text b) g.B.Base.seen (Emit One (text before c.args.word.now c.args.bytes)) (before ++ c.args.bytes ∷ []) c.args.status c.args.view.now c.emit.new.view c.emit.result
    (e.behind text before s) (subst (λ (t : List ℕ). Acts g.B.Base.seen (only (Emit One t) c.args.status) c.args.view.now c.emit.new.view c.emit.result) (e.text text before s) c.emit.ensures)
