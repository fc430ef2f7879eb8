use Rattle.std.proofs.Common.{List, ℕ, [], false, ◌∙◌, ap, subst}
use Rattle.hs_view.specs.Acts.{Acts}
use Rattle.util_common.specs.Operands.{or_input}
use Rattle.util_lines.specs.Selecting.{found_by, words_searched}
use Rattle.util_lines.proofs.selecting.search_input.Goals as goal

pub returns : goal.returns
returns g c =
    subst (λ (ws : List (List ℕ)). Acts g.B.Base.seen (words_searched c.args.search.now false (found_by false false) ws) c.args.view.now c.search_words.new.view c.search_words.result)
    (c.as_slice.ensures ∙ c.in_ok-words.ensures ∙ ap or_input c.new.ensures) c.search_words.ensures
