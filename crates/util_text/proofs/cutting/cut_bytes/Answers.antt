use Rattle.std.proofs.Common.{ℕ, Bool, refl, List, [], ◌∷◌, ◌++◌, length, take, sym, ◌∙◌, ap, append_assoc}
use Rattle.util_text.specs.declared.places.Span.{Span}
use Rattle.util_text.specs.Cut.{chosen, bytes_of_line, cut_bytes}
use Rattle.util_text.specs.Places.{selects}
use Rattle.util_text.specs.Spans.{in_spans}
use Rattle.util_text.proofs.Buffers.{keeps_written}
use Rattle.util_text.proofs.Exits.{on_err}
use Rattle.util_text.proofs.Folds.{lines-step}
use Rattle.util_text.proofs.cutting.cut_bytes.Goals as goal

pub returns-in_err-push-clause-err : goal.returns-in_err-push-clause-err
returns-in_err-push-clause-err c =
    let old = c.args.out.now.items in
    let has : ℕ → Bool = λ place. in_spans c.spans.result.now place in
    let kept = keeps_written old c.lines.out.items (chosen has 1 c.in-Some.line.now) c.write_bytes.new.out.items c.lines.invariant.kept
    (c.in_ok-write_bytes.ensures.ok has (λ place a b. refl)) in
    on_err c.from_residual-in_err-push.result (ap (λ (u : List ℕ). take (length old) u) c.in_err-push.ensures.items ∙ kept)

pub lines-preserved : goal.lines-preserved
lines-preserved c =
    let old = c.args.out.now.items in
    let out = c.lines.out.items in
    let line = c.in-Some.line.now in
    let has : ℕ → Bool = λ place. in_spans c.spans.result.now place in
    let kept = keeps_written old out (chosen has 1 line) c.write_bytes.new.out.items c.lines.invariant.kept (c.in_ok-write_bytes.ensures.ok has (λ place a b. refl)) in
    record {
      kept = keeps_written old c.write_bytes.new.out.items (10 ∷ []) c.push.new.self.items kept c.in_ok-push.ensures.items;
      written = λ ranges s.
          lines-step (λ (l : List ℕ). bytes_of_line (λ place. selects ranges place) l) out c.push.new.self.items
          (old ++ cut_bytes (λ place. selects ranges place) c.args.text.now) c.lines.rest.now line c.in-Some.more.now c.in-Some.ensures.line
          (c.lines.invariant.written ranges s)
          (c.in_ok-push.ensures.items
          ∙ ap (λ (u : List ℕ). u ++ 10 ∷ [])
          (c.in_ok-write_bytes.ensures.ok (λ place. selects ranges place)
          (λ place some small. sym (s place some small) ∙ ap (λ (u : List Span). in_spans u place) (sym c.spans.ensures.spans)))
          ∙ append_assoc out (chosen (λ place. selects ranges place) 1 line) (10 ∷ []));
    }
