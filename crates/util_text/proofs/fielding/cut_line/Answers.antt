use Rattle.std.proofs.Common.{◌≡◌, ℕ, Bool, refl, List, [], ◌∷◌, ◌++◌, ◌<◌, ◌≤◌, ◌^◌, length, take, sym, ◌∙◌, ap}
use Rattle.std.proofs.lemmas.Result.{on_ok_weaker}
use Rattle.util_text.specs.Cut.{fields_of_line}
use Rattle.util_text.specs.Spans.{in_spans}
use Rattle.util_text.proofs.Buffers.{keeps_self, keeps_written}
use Rattle.util_text.proofs.Exits.{on_err}
use Rattle.util_text.proofs.Walked.{Agrees, line_gone, line_whole}
use Rattle.util_text.proofs.fielding.cut_line.Goals as goal

pub returns-in_err-push-clause-err : goal.returns-in_err-push-clause-err
returns-in_err-push-clause-err c =
    let old = c.args.out.now.items in
    let has : ℕ → Bool = λ place. in_spans c.args.spans.now place in
    let kept = keeps_written old old _ c.write_fields.new.out.items (keeps_self old) (c.in_ok-write_fields.ensures.ok has (λ place a b. refl)) in
    on_err c.from_residual-in_err-push.result (ap (λ (u : List ℕ). take (length old) u) c.in_err-push.ensures.items ∙ kept)

pub returns-then-only-clause-ok : goal.returns-then-only-clause-ok
returns-then-only-clause-ok c = λ test agrees. line_gone test c.args.delimiter c.args.only c.args.line.now c.args.out.now.items (sym c.if-has_field.false ∙ c.has_field.ensures) c.if-only.true

pub returns-clause-ok : goal.returns-clause-ok
returns-clause-ok c =
    let old = c.args.out.now.items in
    let line = c.args.line.now in
    let new = c.write_line.new.out.items in
    let done : new ≡ old ++ (line ++ 10 ∷ []) → (test : ℕ → Bool) → Agrees test c.args.spans.now → new ≡ old ++ fields_of_line test c.args.delimiter c.args.only line =
    λ written test agrees. line_whole test c.args.delimiter c.args.only line old new (sym c.if-has_field.false ∙ c.has_field.ensures) c.if-only.false written in
    on_ok_weaker c.write_line.result done c.write_line.ensures.ok
