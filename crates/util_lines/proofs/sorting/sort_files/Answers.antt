use Rattle.std.proofs.Common.{List, ℕ, ◌∙◌, subst}
use Rattle.hs_view.specs.Acts.{Acts}
use Rattle.util_lines.specs.Sorting.{words_sorted}
use Rattle.util_lines.proofs.sorting.sort_files.Goals as goal

pub returns : goal.returns
returns g c =
    subst (λ (ws : List (List ℕ)). Acts g.B.Base.seen (words_sorted c.args.sorting ws) c.args.view.now c.sort_words.new.view c.sort_words.result) (c.as_slice.ensures ∙ c.in_ok-words.ensures) c.sort_words.ensures
