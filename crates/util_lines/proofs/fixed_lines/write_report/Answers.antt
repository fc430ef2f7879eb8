use Rattle.std.proofs.Common.{List, ℕ, ◌∙◌, ap}
use Rattle.std.specs.Prelude.{nat_lt}
use Rattle.util_lines.specs.FixedLines.{selects}
use Rattle.util_lines.specs.Splitting.{lines}
use Rattle.util_lines.proofs.LinesWritten.{counted}
use Rattle.util_lines.proofs.fixed_lines.write_report.Goals as goal

pub returns-then-search-clause-any : goal.returns-then-search-clause-any
returns-then-search-clause-any c =
    ap (λ (n : ℕ). nat_lt 0 n) c.in_ok-count.ensures ∙ counted (λ (line : List ℕ). selects c.args.search.now.flags c.args.search.now.patterns line) (lines c.args.content.now)

pub returns-then-search-2-clause-any : goal.returns-then-search-2-clause-any
returns-then-search-2-clause-any c =
    ap (λ (n : ℕ). nat_lt 0 n) c.in_ok-count-2.ensures ∙ counted (λ (line : List ℕ). selects c.args.search.now.flags c.args.search.now.patterns line) (lines c.args.content.now)
