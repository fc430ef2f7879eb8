use Rattle.std.proofs.Common.{List, ℕ, drop, ◌∙◌, ap}
use Rattle.util_text.specs.Lines.{lines}
use Rattle.util_text.specs.Paste.{has_none}
use Rattle.util_text.proofs.Pasted.{none_left}
use Rattle.util_text.proofs.unread.Unread.is_empty.Goals as goal

pub returns : goal.returns
returns c =
    c.is_empty.ensures
    ∙ none_left c.split_at.result.1.now
    ∙ ap (λ (u : List ℕ). has_none (lines u)) (c.split_at.ensures.back ∙ ap (λ (u : List ℕ). drop c.self.inside.start u) c.as_slice.ensures)
    ∙ ap (λ (ls : List (List ℕ)). has_none ls) c.self.view_is
