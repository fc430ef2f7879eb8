use Rattle.std.proofs.Common.{sym, arith, rules}
use Rattle.std.proofs.lemmas.List.Sorted.{IsNonDecreasingBy-from_sort_by_key, list_any-IsPermutation}
use Rattle.util_text.specs.declared.places.Span.{Span}
use Rattle.util_text.specs.Spans.{in_span}
use Rattle.util_text.proofs.Trims.{ascend-from_sorted}
use Rattle.util_text.proofs.list.sort.Goals as goal

pub returns-clause-order : goal.returns-clause-order
returns-clause-order c =
    ascend-from_sorted 0 c.sort_unstable_by_key.new.self.items (λ i d h. omega arith)
    (IsNonDecreasingBy-from_sort_by_key (λ (s : Span). s.low) _ c.sort_unstable_by_key.ensures.sorted (λ a r q k. search rules))

pub returns-clause-same : goal.returns-clause-same
returns-clause-same c = λ place.
    sym (list_any-IsPermutation (λ (s : Span). in_span s place) c.args.spans.now.items c.sort_unstable_by_key.new.self.items c.sort_unstable_by_key.ensures.permutation)
