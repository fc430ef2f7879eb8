use Rattle.std.proofs.Common.{Bool, List, ℕ, refl, sym, ap, ◌∙◌}
use Rattle.std.specs.Prelude.{Option, Ok, codes}
use Rattle.hs_view.proofs.Acting.{acts_as}
use Rattle.util_common.specs.Words.{is_given, last_value}
use Rattle.util_text.specs.Pasting.{delimiters_wanted, operands_pasted, paste_by, paste_of}
use Rattle.util_text.specs.Turns.{turns}
use Rattle.util_text.proofs.Sided.{list_blamed}
use Rattle.util_text.proofs.pasting.paste_words.Goals as goal

pub returns-in-Ok : goal.returns-in-Ok
returns-in-Ok g c =
    let ds = turns c.in-Ok.delimiters in
    let words = c.args.words in
    let apart = is_given 115 words.given in
    acts_as g.B.Base.seen (operands_pasted c.is_given-apart.result ds c.as_slice.result.now) (paste_by (Ok words)) c.args.view.now c.paste_operands.new.view c.paste_operands.result
    (λ u s.
    ap (λ (b : Bool). operands_pasted b ds c.as_slice.result.now u) c.is_given-apart.ensures
    ∙ ap (λ (ws : List (List ℕ)). operands_pasted apart ds ws u) c.as_slice.ensures
    ∙ ap (λ (o : Option (List (Option ℕ))). paste_of apart words.operands o u) (sym c.in-Ok.ensures.ok)) c.paste_operands.ensures

pub returns : goal.returns
returns g c =
    let words = c.args.words in
    c.refuse_words.ensures (paste_by (Ok words))
    (list_blamed (paste_of (is_given 115 words.given) words.operands) (codes "paste") c.in-Err.err (delimiters_wanted (last_value 100 words.given)) (λ w. refl) c.in-Err.ensures.fault)
