use Rattle.std.proofs.Common.{List, ℕ, drop, sym, ◌∙◌, ap}
use Rattle.std.specs.List.{list_any}
use Rattle.std.specs.declared.cmp.Ordering.{Ordering}
use Rattle.std.specs.Ordering.{nat_cmp, is_gt}
use Rattle.std.specs.Cmp.Lexicographic.{slice_cmp}
use Rattle.util_text.proofs.Greater.{is_value, greater-first, greater-second, greater-neither}
use Rattle.util_text.proofs.number.is_greater.Goals as goal

pub returns-then-has_value : goal.returns-then-has_value
returns-then-has_value c = λ m n am bn.
    greater-first c.args.a.now c.args.b.now m n c.saturating_sub.result c.saturating_sub-2.result c.saturating_sub.ensures c.saturating_sub-2.ensures am bn
    (sym (c.if-has_value.ensures ∙ ap (λ (u : List ℕ). list_any (λ b. is_value b) u) c.split_at.ensures.front))

pub returns-then-has_value-2 : goal.returns-then-has_value-2
returns-then-has_value-2 c = λ m n am bn.
    greater-second c.args.a.now c.args.b.now m n c.saturating_sub.result c.saturating_sub-2.result c.saturating_sub.ensures c.saturating_sub-2.ensures am bn
    (sym (c.if-has_value.ensures ∙ ap (λ (u : List ℕ). list_any (λ b. is_value b) u) c.split_at.ensures.front))
    (sym (c.if-has_value-2.ensures ∙ ap (λ (u : List ℕ). list_any (λ b. is_value b) u) c.split_at-2.ensures.front))

pub returns : goal.returns
returns c = λ m n am bn.
    c.is_gt.ensures
    ∙ ap (λ (o : Ordering). is_gt o)
    (c.cmp.ensures
    ∙ ap (λ (u : List ℕ). slice_cmp nat_cmp u c.split_at-2.result.1.now) c.split_at.ensures.back
    ∙ ap (λ (u : List ℕ). slice_cmp nat_cmp (drop c.saturating_sub.result c.args.a.now) u) c.split_at-2.ensures.back)
    ∙ greater-neither c.args.a.now c.args.b.now m n c.saturating_sub.result c.saturating_sub-2.result c.saturating_sub.ensures c.saturating_sub-2.ensures am bn
    (sym (c.if-has_value.ensures ∙ ap (λ (u : List ℕ). list_any (λ b. is_value b) u) c.split_at.ensures.front))
    (sym (c.if-has_value-2.ensures ∙ ap (λ (u : List ℕ). list_any (λ b. is_value b) u) c.split_at-2.ensures.front))
