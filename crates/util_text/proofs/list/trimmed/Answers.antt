use Rattle.std.proofs.Common.{◌≡◌, List, ◌++◌, sym, ◌∙◌, ap, append-nil, arith}
use Rattle.std.proofs.lemmas.List.{drop_all}
use Rattle.util_text.specs.declared.places.Span.{Span}
use Rattle.util_text.specs.Spans.{is_apart, in_spans}
use Rattle.util_text.proofs.Trims.{trim, trim-apart, trim-has}
use Rattle.util_text.proofs.list.trimmed.Goals as goal

pub returns-clause-apart : goal.returns-clause-apart
returns-clause-apart c =
    let spans = c.args.spans.now in
    let kept = c.spans.kept.items in
    let all : trim 0 spans ≡ kept =
    c.spans.invariant ∙ ap (λ (u : List Span). kept ++ trim c.spans.end u) (drop_all c.spans.span-index spans (omega arith)) ∙ append-nil kept in
    ap (λ (u : List Span). is_apart 0 u) (sym all) ∙ trim-apart 0 spans

pub returns-clause-same : goal.returns-clause-same
returns-clause-same c = λ place some.
    let spans = c.args.spans.now in
    let kept = c.spans.kept.items in
    let all : trim 0 spans ≡ kept =
    c.spans.invariant ∙ ap (λ (u : List Span). kept ++ trim c.spans.end u) (drop_all c.spans.span-index spans (omega arith)) ∙ append-nil kept in
    ap (λ (u : List Span). in_spans u place) (sym all) ∙ trim-has 0 0 spans place c.requires some
