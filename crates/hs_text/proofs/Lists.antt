-- When texts and lists of texts are the same.
use Rattle.std.proofs.Common.{◌≡◌, ℕ, List, Bool, true, T, subst, refl, sym, ◌∙◌}
use Rattle.std.specs.Prelude.{nat_eq}
use Rattle.std.specs.declared.cmp.Ordering.{Ordering}
use Rattle.std.specs.declared.cmp.Ordering.TheVariants.{Less, Equal, Greater}
use Rattle.std.specs.Ordering.{is_eq, eq_by_cmp}
use Rattle.std.specs.Cmp.{IsTotalOrder}
use Rattle.std.specs.Cmp.Lexicographic.{pointwise, lists_total, lists_ties, lists_equiv, texts_ties, nat_list_eq_equiv, nat_list_cmp_total}
use Rattle.std.specs.FinMap.{IsAntisymmetric, nat_cmp-IsAntisymmetric, slice_cmp-IsAntisymmetric}
use Rattle.hs_text.specs.Order.{name_cmp, path_cmp}

pub names_total : IsTotalOrder name_cmp
names_total = nat_list_cmp_total

pub names_same : IsAntisymmetric name_cmp
names_same = slice_cmp-IsAntisymmetric nat_cmp-IsAntisymmetric

pub paths_total : IsTotalOrder path_cmp
paths_total = lists_total nat_list_cmp_total

pub paths_same : IsAntisymmetric path_cmp
paths_same = slice_cmp-IsAntisymmetric names_same

pub equal : (r : Ordering) → T (is_eq r) → r ≡ Equal
equal Less p = absurd p
equal Equal p = refl
equal Greater p = absurd p

pub texts_told : (xs ys : List (List ℕ)) (r : Bool) → r ≡ pointwise (pointwise nat_eq) xs ys → (r ≡ true → xs ≡ ys) × (xs ≡ ys → r ≡ true)
texts_told xs ys r e =
    let ties : r ≡ eq_by_cmp path_cmp xs ys = e ∙ lists_ties name_cmp texts_ties xs ys in (
      λ h. paths_same xs ys (equal _ (subst T (sym (sym ties ∙ h)) tt)),
      λ q. e ∙ subst (λ zs. pointwise (pointwise nat_eq) xs zs ≡ true) q ((lists_equiv nat_list_eq_equiv).refl xs),
    )
