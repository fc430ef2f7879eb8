use Rattle.std.proofs.Common.{List, ℕ, sym, ◌∙◌}
use Rattle.std.specs.List.{list_any}
use Rattle.util_lines.specs.FixedLines.{fits}
use Rattle.util_lines.specs.Splitting.{lines}
use Rattle.util_lines.proofs.LinesWritten.{any_here, any_next}
use Rattle.util_lines.proofs.fixed_lines.line_fits.Goals as goal

pub returns-then-fits : goal.returns-then-fits
returns-then-fits c =
    let test = λ (pattern : List ℕ). fits c.args.whole c.args.line.now pattern in
    any_here test (lines c.patterns.rest.now) (lines c.in-Some.more.now) c.in-Some.pattern.now (list_any test (lines c.args.patterns.now)) c.patterns.invariant c.in-Some.ensures.line
    (sym c.fits.ensures ∙ c.if-fits.true)

pub patterns-preserved : goal.patterns-preserved
patterns-preserved c =
    let test = λ (pattern : List ℕ). fits c.args.whole c.args.line.now pattern in
    any_next test (lines c.patterns.rest.now) (lines c.in-Some.more.now) c.in-Some.pattern.now (list_any test (lines c.args.patterns.now)) c.patterns.invariant c.in-Some.ensures.line
    (sym c.fits.ensures ∙ c.if-fits.false)
