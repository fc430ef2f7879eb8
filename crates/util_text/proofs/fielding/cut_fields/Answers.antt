use Rattle.std.proofs.Common.{ℕ, Bool, refl, List, ◌++◌, sym, ◌∙◌, ap}
use Rattle.util_text.specs.declared.places.Span.{Span}
use Rattle.util_text.specs.Cut.{cut_fields, fields_of_line}
use Rattle.util_text.specs.Places.{selects}
use Rattle.util_text.specs.Spans.{in_spans}
use Rattle.util_text.proofs.Buffers.{keeps_written}
use Rattle.util_text.proofs.Folds.{lines-step}
use Rattle.util_text.proofs.fielding.cut_fields.Goals as goal

pub lines-preserved : goal.lines-preserved
lines-preserved c =
    let old = c.args.out.now.items in
    let out = c.lines.out.items in
    let new = c.cut_line.new.out.items in
    let d = c.args.delimiter in
    let only = c.args.only in
    let has : ℕ → Bool = λ place. in_spans c.spans.result.now place in
    record {
      kept = keeps_written old out _ new c.lines.invariant.kept (c.in_ok-cut_line.ensures.ok has (λ place a b. refl));
      written = λ ranges s.
          lines-step (λ (l : List ℕ). fields_of_line (λ place. selects ranges place) d only l) out new
          (old ++ cut_fields (λ place. selects ranges place) d only c.args.text.now) c.lines.rest.now c.in-Some.line.now c.in-Some.more.now c.in-Some.ensures.line
          (c.lines.invariant.written ranges s)
          (c.in_ok-cut_line.ensures.ok (λ place. selects ranges place)
          (λ place some small. sym (s place some small) ∙ ap (λ (u : List Span). in_spans u place) (sym c.spans.ensures.spans)));
    }
