use Rattle.std.proofs.Common.{List, ℕ, drop, sym, ◌∙◌, ap}
use Rattle.std.specs.List.{list_any}
use Rattle.std.specs.Ordering.{nat_cmp}
use Rattle.std.specs.Cmp.Lexicographic.{slice_cmp}
use Rattle.util_lines.proofs.Whole.{is_value, greater-first, greater-second, greater-neither}
use Rattle.util_lines.proofs.decimal.compare_whole.Goals as goal

pub returns-then-has_value : goal.returns-then-has_value
returns-then-has_value c =
    greater-first c.args.a.now c.args.b.now c.saturating_sub.result c.saturating_sub-2.result c.saturating_sub.ensures c.saturating_sub-2.ensures c.requires.first c.requires.second
    (sym (c.if-has_value.ensures ∙ ap (λ (u : List ℕ). list_any (λ b. is_value b) u) c.split_at.ensures.front))

pub returns-then-has_value-2 : goal.returns-then-has_value-2
returns-then-has_value-2 c =
    greater-second c.args.a.now c.args.b.now c.saturating_sub.result c.saturating_sub-2.result c.saturating_sub.ensures c.saturating_sub-2.ensures c.requires.first c.requires.second
    (sym (c.if-has_value.ensures ∙ ap (λ (u : List ℕ). list_any (λ b. is_value b) u) c.split_at.ensures.front))
    (sym (c.if-has_value-2.ensures ∙ ap (λ (u : List ℕ). list_any (λ b. is_value b) u) c.split_at-2.ensures.front))

pub returns : goal.returns
returns c =
    c.cmp.ensures
    ∙ ap (λ (u : List ℕ). slice_cmp nat_cmp u c.split_at-2.result.1.now) c.split_at.ensures.back
    ∙ ap (λ (u : List ℕ). slice_cmp nat_cmp (drop c.saturating_sub.result c.args.a.now) u) c.split_at-2.ensures.back
    ∙ greater-neither c.args.a.now c.args.b.now c.saturating_sub.result c.saturating_sub-2.result c.saturating_sub.ensures c.saturating_sub-2.ensures c.requires.first c.requires.second
    (sym (c.if-has_value.ensures ∙ ap (λ (u : List ℕ). list_any (λ b. is_value b) u) c.split_at.ensures.front))
    (sym (c.if-has_value-2.ensures ∙ ap (λ (u : List ℕ). list_any (λ b. is_value b) u) c.split_at-2.ensures.front))
