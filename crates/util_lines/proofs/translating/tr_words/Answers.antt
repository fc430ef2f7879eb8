use Rattle.std.proofs.Common.{◌≡◌, List, ℕ, refl, sym, ap, ◌∙◌, subst}
use Rattle.std.specs.Prelude.{Result, Ok, Err, codes}
use Rattle.hs_view.proofs.Acting.{acts_as}
use Rattle.util_common.specs.Words.{Answers}
use Rattle.util_common.specs.declared.messages.Why.{Why}
use Rattle.util_common.proofs.Refusing.{blamed}
use Rattle.util_lines.specs.Transliterate.{Job}
use Rattle.util_lines.specs.Translating.{asked_by, input_written, tr_by, tr_of, wanted}
use Rattle.util_lines.specs.declared.translating.Asked.{Asked}
use Rattle.util_lines.proofs.translating.tr_words.Goals as goal

pub returns-in-Ok : goal.returns-in-Ok
returns-in-Ok g c =
    let given = c.args.words.given in
    let operands = c.args.words.operands in
    let (job, e, s) = c.in-Ok.ensures.ok in
    let same : wanted (asked_by given) operands ≡ Ok job =
    ap (λ (o : List (List ℕ)). wanted (asked_by given) o) (sym c.as_slice.ensures) ∙ ap (λ (a : Asked). wanted a c.as_slice.result.now) (sym c.asked_by-asked.ensures) ∙ e in
    acts_as g.B.Base.seen (input_written job) (tr_by (Ok c.args.words)) c.args.view.now c.write_input.new.view c.write_input.result
    (λ u p. ap (λ (o : Result Job Why). tr_of o u) (sym same)) (c.write_input.ensures job s)

pub returns : goal.returns
returns g c =
    let given = c.args.words.given in
    let operands = c.args.words.operands in
    let same : wanted c.asked_by-asked.result c.as_slice.result.now ≡ wanted (asked_by given) operands =
    ap (λ (a : Asked). wanted a c.as_slice.result.now) c.asked_by-asked.ensures ∙ ap (λ (o : List (List ℕ)). wanted (asked_by given) o) c.as_slice.ensures in
    c.refuse_words.ensures (tr_by (Ok c.args.words))
    (blamed tr_of (codes "tr") c.in-Err.err (wanted (asked_by given) operands) (λ why w. refl)
    (subst (λ (r : Result Job Why). Answers {X = Job} (Err c.in-Err.err) r) same c.in-Err.ensures.fault))
