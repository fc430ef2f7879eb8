use Rattle.std.proofs.Common.{List, ℕ, sym, ◌∙◌}
use Rattle.util_lines.specs.FixedLines.{fits}
use Rattle.util_lines.proofs.LinesWritten.{empty_pattern, some_patterns}
use Rattle.util_lines.proofs.fixed_lines.one_fits.Goals as goal

pub returns-then-is_empty : goal.returns-then-is_empty
returns-then-is_empty c =
    empty_pattern (λ (pattern : List ℕ). fits c.args.whole c.args.line.now pattern) c.args.patterns.now c.fits.result (sym c.is_empty.ensures ∙ c.if-is_empty.true) c.fits.ensures

pub returns : goal.returns
returns c =
    some_patterns (λ (pattern : List ℕ). fits c.args.whole c.args.line.now pattern) c.args.patterns.now c.line_fits.result (sym c.is_empty.ensures ∙ c.if-is_empty.false) c.line_fits.ensures
