use Rattle.std.proofs.Common.{◌≡◌, ℕ, ◌-◌, List, length, drop, ap, ◌∙◌, sym}
use Rattle.util_text.specs.Tail.{tail}
use Rattle.util_text.proofs.Suffixes.{tail_behind}
use Rattle.util_text.proofs.ends.tail_start.Goals as goal

pub returns-clause-lines : goal.returns-clause-lines
returns-clause-lines c = λ exact stands.
    let text = c.args.text.now in
    let same = c.tail.ensures exact stands in
    ap (λ (n : ℕ). drop n text) c.saturating_sub.ensures ∙ ap (λ (xs : List ℕ). drop (length text - length xs) text) same ∙ tail_behind exact text
