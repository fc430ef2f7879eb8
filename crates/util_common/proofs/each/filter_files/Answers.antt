use Rattle.std.proofs.Common.{List, ℕ, ◌∙◌, subst}
use Rattle.hs_view.specs.declared.halt.Halt.TheVariants as halt
use Rattle.hs_view.proofs.Acting.{acts_memory}
use Rattle.util_common.specs.Operands.{Filtered, none_yet, operands_written, or_input}
use Rattle.util_common.proofs.Filters.{filtered_on}
use Rattle.util_common.proofs.each.filter_files.Goals as goal

pub returns-in_err-words : goal.returns-in_err-words
returns-in_err-words g c = λ text s.
    let m = operands_written c.args.utility.now text none_yet (or_input c.args.operands) in
    filtered_on (λ (b : List (List ℕ)). g.F.Filter.writes c.args.filter.now text b) g.B.Base.seen m c.args.view.now c.args.view.now halt.NoMemory _ c.from_residual.ensures.0 c.from_residual.ensures.1 (acts_memory g.B.Base.seen m c.args.view.now)

pub returns : goal.returns
returns g c = λ text s.
    subst (λ (ws : List (List ℕ)). Filtered (λ (b : List (List ℕ)). g.F.Filter.writes c.filter_operands.new.filter text b) g.B.Base.seen (operands_written c.args.utility.now text none_yet ws) c.args.view.now c.filter_operands.new.view c.filter_operands.result)
    (c.as_slice.ensures ∙ c.in_ok-words.ensures) (c.filter_operands.ensures text s)
