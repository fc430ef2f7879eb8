use Rattle.std.proofs.Common.{List, sym, ◌∙◌, ap}
use Rattle.util_text.specs.declared.places.Span.{Span}
use Rattle.util_text.specs.Places.{list_of}
use Rattle.util_text.specs.Spans.{in_spans}
use Rattle.util_text.proofs.Ranges.{ranges-of_spans}
use Rattle.util_text.proofs.Trims.{spans-select}
use Rattle.util_text.proofs.list.read_list.Goals as goal

pub returns-clause-ok : goal.returns-clause-ok
returns-clause-ok c =
    let found = ranges-of_spans (list_of c.args.word.now) c.in_ok-spans.spans.items c.in_ok-spans.ensures.ok in (
      found.0,
      found.1,
      λ place some small.
          ap (λ (u : List Span). in_spans u place) c.new.ensures
          ∙ c.in_ok-spans-2.ensures.same place some
          ∙ ap (λ (u : List Span). in_spans u place) c.as_slice.ensures.value
          ∙ c.sort.ensures.same place
          ∙ ap (λ (u : List Span). in_spans u place) (sym found.2)
          ∙ spans-select found.0 place small,
    )
