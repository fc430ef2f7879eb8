use Rattle.std.proofs.Common.{List, ℕ, [], ◌∷◌, ◌++◌, sym, ap, ◌∙◌, append_assoc}
use Rattle.std.specs.Prelude.{codes}
use Rattle.std.proofs.lemmas.Result.{on_ok_weaker}
use Rattle.util_common.specs.Messages.{why_text}
use Rattle.util_common.specs.declared.messages.Why.{Why}
use Rattle.util_common.proofs.messages.push_why.Goals as goal

pub returns-in-MissingOperand : goal.returns-in-MissingOperand
returns-in-MissingOperand c =
    on_ok_weaker c.extend-in-MissingOperand.result (λ e. e ∙ ap (λ (y : Why). c.args.text.now ++ why_text y) (sym c.in-MissingOperand.is)) c.extend-in-MissingOperand.ensures.ok

pub returns-in_ok-extend-in-UnknownOption : goal.returns-in_ok-extend-in-UnknownOption
returns-in_ok-extend-in-UnknownOption c =
    let b = c.in-UnknownOption.byte in
    on_ok_weaker c.extend-in-UnknownOption-2.result
    (λ e.
    e
    ∙ ap (λ (l : List ℕ). l ++ b ∷ []) c.in_ok-extend-in-UnknownOption.ensures.ok
    ∙ append_assoc c.args.text.now (codes "unknown option -") (b ∷ [])
    ∙ ap (λ (y : Why). c.args.text.now ++ why_text y) (sym c.in-UnknownOption.is))
    c.extend-in-UnknownOption-2.ensures.ok

pub returns-in_ok-extend-in-NeedsValue-2 : goal.returns-in_ok-extend-in-NeedsValue-2
returns-in_ok-extend-in-NeedsValue-2 c =
    let b = c.in-NeedsValue.byte in
    on_ok_weaker c.extend-in-NeedsValue-3.result
    (λ e.
    e
    ∙ ap (λ (l : List ℕ). l ++ codes " needs a value") (c.in_ok-extend-in-NeedsValue-2.ensures.ok ∙ ap (λ (l : List ℕ). l ++ b ∷ []) c.in_ok-extend-in-NeedsValue.ensures.ok)
    ∙ append_assoc (c.args.text.now ++ codes "option -") (b ∷ []) (codes " needs a value")
    ∙ append_assoc c.args.text.now (codes "option -") (b ∷ codes " needs a value")
    ∙ ap (λ (y : Why). c.args.text.now ++ why_text y) (sym c.in-NeedsValue.is))
    c.extend-in-NeedsValue-3.ensures.ok
