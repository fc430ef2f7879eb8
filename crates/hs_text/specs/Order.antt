-- The order of texts and of lists of texts.
use Rattle.std.specs.Prelude.{ℕ, List, nat_eq}
use Rattle.std.proofs.Common.{subst, refl}
use Rattle.std.specs.declared.option.Option.TheVariants.{Some}
use Rattle.std.specs.declared.cmp.Ordering.{Ordering}
use Rattle.std.specs.Ordering.{nat_cmp}
use Rattle.std.specs.Cmp.{IsPartialOrder, Agrees}
use Rattle.std.specs.Cmp.Lexicographic.{slice_cmp, slice_partial_cmp, pointwise, lists_po, lists_agrees, texts_po}

-- by bytes
abbrev pub name_cmp : List ℕ → List ℕ → Ordering
name_cmp = slice_cmp nat_cmp

-- name by name
abbrev pub path_cmp : List (List ℕ) → List (List ℕ) → Ordering
path_cmp = slice_cmp name_cmp

-- Paths so ordered are in a partial order too.
pub paths_po : IsPartialOrder (pointwise (pointwise nat_eq)) (λ xs ys. Some (path_cmp xs ys))
paths_po =
    let o = lists_po texts_po in
    let a : Agrees (slice_partial_cmp (λ x y. Some (name_cmp x y))) path_cmp = lists_agrees (λ x y. refl) in
    subst (IsPartialOrder (pointwise (pointwise nat_eq))) (λ i xs ys. a xs ys i) o
