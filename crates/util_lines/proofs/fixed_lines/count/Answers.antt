use Rattle.std.proofs.Common.{Bool, true, false, List, ℕ, ◌≡◌, ◌≤◌, refl, ap, cond, ◌∙◌, arith}
use Rattle.util_lines.specs.FixedLines.{count_of, selects}
use Rattle.util_lines.specs.Splitting.{lines}
use Rattle.util_lines.proofs.LinesWritten.{at_most_one, count_more}
use Rattle.util_lines.proofs.fixed_lines.count.Goals as goal
use mir.Val.{bool_byte}

as_cond : (b : Bool) → bool_byte b ≡ cond {A = ℕ} b 1 0
as_cond true = refl
as_cond false = refl

pub lines-preserved : goal.lines-preserved
lines-preserved c =
    let flags = c.args.search.now.flags in
    let patterns = c.args.search.now.patterns in
    let line = c.in-Some.line.now in
    let one : c.from-count.result ≡ cond (selects flags patterns line) 1 0 = c.from-count.ensures ∙ as_cond c.in_ok-selected.selected ∙ ap (λ (b : Bool). cond {A = ℕ} b 1 0) c.in_ok-selected.ensures in
    let few : c.from-count.result ≤ 1 = at_most_one (selects flags patterns line) c.from-count.result one in
    record {
      counted = count_more (λ (l : List ℕ). selects flags patterns l) (lines c.lines.rest.now) (lines c.in-Some.more.now) line c.lines.count c.from-count.result (count_of flags patterns c.args.content.now)
          c.lines.invariant.counted c.in-Some.ensures.line one;
      within = omega (arith, c.lines.invariant.within, c.in-Some.ensures.shorter, few);
    }
