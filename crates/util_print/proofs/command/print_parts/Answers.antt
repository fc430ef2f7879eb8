use Rattle.std.proofs.Common.{List, ℕ, ap, ◌∙◌}
use Rattle.hs_view.proofs.Acting.{acts_as, acts_memory_on}
use Rattle.util_print.specs.Printf.{parts_printed, told}
use Rattle.util_print.specs.Shown.{all_parts, bad_words}
use Rattle.util_print.proofs.command.print_parts.Goals as goal

pub returns-in_err-out : goal.returns-in_err-out
returns-in_err-out g c = acts_memory_on g.B.Base.seen (parts_printed c.args.parts.now c.args.words.now) c.args.view.now _ c.from_residual.ensures.0 c.from_residual.ensures.1

pub returns-in_err-text : goal.returns-in_err-text
returns-in_err-text g c = acts_memory_on g.B.Base.seen (parts_printed c.args.parts.now c.args.words.now) c.args.view.now _ c.from_residual-in_err-text.ensures.0 c.from_residual-in_err-text.ensures.1

pub returns : goal.returns
returns g c =
    let ps = c.args.parts.now in
    let words = c.args.words.now in
    acts_as g.B.Base.seen (told c.as_slice.result.now c.in_ok-text.text 0) (parts_printed ps words) c.args.view.now c.tell.new.view c.tell.result
    (λ u s. ap (λ (ws : List (List ℕ)). told ws c.in_ok-text.text 0 u) (c.as_slice.ensures ∙ c.in_ok-out.ensures.bad)
    ∙ ap (λ (t : List ℕ). told (bad_words (all_parts ps words) words) t 0 u) (c.in_ok-text.ensures ∙ c.in_ok-out.ensures.out))
    c.tell.ensures
