-- The orders of lines are total orders.
use Rattle.std.proofs.Common.{◌≡◌, ℕ, Bool, true, false, List, refl, sym}
use Rattle.std.specs.Cmp.{IsTotalOrder}
use Rattle.std.specs.Ordering.{nat_cmp, ordering_reverse}
use Rattle.std.specs.declared.cmp.Ordering.{Ordering}
use Rattle.std.specs.declared.cmp.Ordering.TheVariants.{Less, Equal, Greater}
use Rattle.std.proofs.lemmas.Cmp.{alike_right, nat_cmp_total, nat_list_cmp_total, on_total, then_total}
use Rattle.util_lines.specs.Decimals.{Decimal, by_signs, decimal_of, decimal_order, size_order}
use Rattle.util_lines.specs.Orders.{order}
use Rattle.util_lines.specs.declared.ordering.By.{By}
use Rattle.util_lines.specs.declared.ordering.By.TheVariants.{Bytes, Number, NumberThenBytes}

size_total : IsTotalOrder size_order
size_total = then_total (on_total (λ (d : Decimal). d.whole) nat_cmp_total) (on_total (λ (d : Decimal). d.fraction) nat_list_cmp_total)

signs-antisymm : (s t : Bool) (a b : Decimal) → by_signs s t a b ≡ ordering_reverse (by_signs t s b a)
signs-antisymm false false a b = size_total.antisymm a b
signs-antisymm false true a b = refl
signs-antisymm true false a b = refl
signs-antisymm true true a b = size_total.antisymm b a

signs-trans : (s t u : Bool) (a b c : Decimal) → by_signs s t a b ≡ Less → by_signs t u b c ≡ Less → by_signs s u a c ≡ Less
signs-trans false false false a b c h i = size_total.trans a b c h i
signs-trans false false true a b c h i = cc
signs-trans false true false a b c h i = cc
signs-trans false true true a b c h i = cc
signs-trans true false false a b c h i = refl
signs-trans true false true a b c h i = cc
signs-trans true true false a b c h i = refl
signs-trans true true true a b c h i = size_total.trans c b a i h

signs-congr : (s t u : Bool) (a b c : Decimal) → by_signs s t a b ≡ Equal → by_signs s u a c ≡ by_signs t u b c
signs-congr false false false a b c h = size_total.congr a b c h
signs-congr false false true a b c h = refl
signs-congr false true u a b c h = cc
signs-congr true false u a b c h = cc
signs-congr true true false a b c h = refl
signs-congr true true true a b c h = sym (alike_right size_total b a c h)

decimal_total : IsTotalOrder decimal_order
decimal_total = record {
  antisymm = λ a b. signs-antisymm a.below b.below a b;
  trans = λ a b c. signs-trans a.below b.below c.below a b c;
  congr = λ a b c. signs-congr a.below b.below c.below a b c;
}

pub order_total : (by : By) → IsTotalOrder (order by)
order_total Bytes = nat_list_cmp_total
order_total Number = on_total decimal_of decimal_total
order_total NumberThenBytes = then_total (on_total decimal_of decimal_total) nat_list_cmp_total
