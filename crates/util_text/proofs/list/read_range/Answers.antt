use Rattle.std.proofs.Common.{Option, ◌∙◌, ap}
use Rattle.std.specs.Prelude.{option_map}
use Rattle.util_text.specs.Places.{Range}
use Rattle.util_text.specs.Spans.{span_of}
use Rattle.util_text.proofs.Ranges.{dash_found, dash_missing}
use Rattle.util_text.proofs.list.read_range.Goals as goal

pub returns-in-Some : goal.returns-in-Some
returns-in-Some c =
    c.range_with.ensures
    ∙ ap (λ (o : Option Range). option_map (λ r. span_of r) o)
    (dash_found c.args.item.now c.split_at.result.0.now c.split_at-in-Some.result.1.now c.in-Some.at c.in-Some.ensures.0 c.in-Some.ensures.1
    c.split_at.ensures.front c.split_at-in-Some.ensures.back)

pub returns-in-None : goal.returns-in-None
returns-in-None c = c.bounded.ensures ∙ ap (λ (o : Option Range). option_map (λ r. span_of r) o) (dash_missing c.args.item.now c.in-None.ensures)
