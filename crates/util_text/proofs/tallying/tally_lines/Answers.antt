use Rattle.std.proofs.Common.{Bool, ℕ, List, sym, ap, refl, ◌∙◌, arith}
use Rattle.std.specs.Prelude.{codes}
use Rattle.hs_world.specs.World.{WorldData}
use Rattle.hs_view.specs.Acts.{then_by}
use Rattle.hs_view.specs.declared.halt.Halt.{Halt}
use Rattle.hs_view.proofs.Acting.{acts_as, acts_first, acts_on, acts_then}
use Rattle.hs_view.proofs.Keeping.{showed_earlier}
use Rattle.util_common.specs.Operands.{Progress, none_yet, operands_written, or_input, progress_of}
use Rattle.util_common.proofs.Filters.{filtered_err, filtered_ok}
use Rattle.util_text.specs.Head.{is_several}
use Rattle.util_text.specs.Tallying.{LineTallying, has_operand, sum_written, tallies, tallies_written, total_written}
use Rattle.util_text.proofs.Tallied.{short_none}
use Rattle.util_text.proofs.Totals.{few_read, lines_told}
use Rattle.util_text.proofs.tallying.tally_lines.Goals as goal

pub returns-in_err-status : goal.returns-in_err-status
returns-in_err-status g c =
    let chosen = c.args.chosen in
    let operands = c.args.operands in
    let text = tallies chosen (has_operand operands) in
    let m = operands_written (codes "wc") text none_yet (or_input operands) in
    let next = c.filter_files.new.view in
    let h = c.in_err-status.field-0.0 in
    acts_on g.B.Base.seen (tallies_written chosen operands) c.args.view.now next h _ c.from_residual.ensures.0 c.from_residual.ensures.1
    (acts_first g.B.Base.seen m (total_written chosen (is_several operands)) c.args.view.now next h
    (filtered_err (λ (before : List (List ℕ)). LineTallying c.filter_files.new.filter text before) g.B.Base.seen m c.args.view.now next h
    (c.in_err-status.ensures text (record { is = ap (tallies chosen) (sym (c.has_operand-named.ensures ∙ ap has_operand c.as_slice.ensures)); unwritten = c.requires; short = short_none; sum = refl }))))

pub returns : goal.returns
returns g c =
    let chosen = c.args.chosen in
    let operands = c.args.operands in
    let text = tallies chosen (has_operand operands) in
    let m = operands_written (codes "wc") text none_yet (or_input operands) in
    let a = c.args.view.now in
    let b = c.filter_files.new.view in
    let d = c.write_sum.new.view in
    let x = c.in_ok-status.status in
    let sum = c.filter_files.new.filter.total in
    let several = c.is_several-several.result in
    let (contents, stands, t) = filtered_ok (λ (before : List (List ℕ)). LineTallying c.filter_files.new.filter text before) g.B.Base.seen m a b x
    (c.in_ok-status.ensures text (record { is = ap (tallies chosen) (sym (c.has_operand-named.ensures ∙ ap has_operand c.as_slice.ensures)); unwritten = c.requires; short = short_none; sum = refl })) in
    acts_as g.B.Base.seen (λ (w : WorldData). then_by (m w) (λ p. sum_written chosen several sum p.status) w) (tallies_written chosen operands) a d c.write_sum.result
    (λ u s.
    lines_told (m u) chosen several sum contents x u c.requires (t.does u (showed_earlier {A = ℕ} {H = Halt} g.B.Base.seen a b d c.write_sum.result u c.write_sum.ensures.keeps s)).1 stands.sum stands.short
    (few_read (codes "wc") text operands c.as_slice.result.now u c.as_slice.ensures (omega arith))
    ∙ ap (λ (v : Bool). then_by (m u) (total_written chosen v) u) c.is_several-several.ensures)
    (acts_then g.B.Base.seen m (λ (p : Progress). sum_written chosen several sum p.status) a b d (progress_of contents x) c.write_sum.result t c.write_sum.ensures)
