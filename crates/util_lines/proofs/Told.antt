-- Numbers that are read, part by part.
use Rattle.std.proofs.Common.{◌≡◌, ℕ, ◌<◌, ◌≤◌, Bool, true, false, not, List, [], ◌∷◌, length, refl, sym, ◌∙◌, ap, eqb, arith}
use Rattle.std.specs.Prelude.{◌&&◌}
use Rattle.std.specs.List.{list_any}
use Rattle.std.proofs.lemmas.Bool.{eq-eqb, eqb-true}
use Rattle.util_lines.specs.Decimals.{behind_blanks, behind_digits, behind_sign, decimal, decimal_of, digits, digits_behind_point, has_sign, is_zero, number, signed, unsigned_of, without_zeros}
use Rattle.util_lines.proofs.Whole.{is_value, no-value, some-value}

false_is : (b : Bool) → (b ≡ true → ⊥) → false ≡ b
false_is true clear = absurd (clear refl)
false_is false clear = refl

positive : (n : ℕ) → 0 < n → false ≡ eqb n 0
positive n h = false_is (eqb n 0) (λ is. let e : n ≡ 0 = eqb-true n 0 is in absurd (omega arith))

zero-cases : (h : Bool) (whole : List ℕ) → digits whole ≡ whole → h ≡ list_any (λ b. is_value b) whole → not h ≡ eqb (number whole) 0
zero-cases true whole ds is = positive (number whole) (some-value whole 0 ds (sym is))
zero-cases false whole ds is = sym (eq-eqb (number whole) 0 (no-value whole (sym is)))

pub zero_told : (h : Bool) (whole fraction : List ℕ) → digits whole ≡ whole → h ≡ list_any (λ b. is_value b) whole → length fraction < 1 → not h ≡ is_zero (number whole) fraction
zero_told h whole [] ds is l = zero-cases h whole ds is
zero_told h whole (d ∷ fraction) ds is l = absurd (omega arith)

pub some_told : (n : ℕ) (fraction : List ℕ) → 1 ≤ length fraction → false ≡ is_zero n fraction
some_told n [] h = absurd (omega arith)
some_told n (d ∷ fraction) h = refl

pub read_told : (line t x whole y p f : List ℕ) (minus z : Bool) → t ≡ behind_blanks line → minus ≡ has_sign t → x ≡ behind_sign t → whole ≡ digits x → y ≡ behind_digits x → p ≡ digits_behind_point y
    → f ≡ without_zeros p → z ≡ is_zero (number whole) f → decimal_of line ≡ decimal (minus && not z) (number whole) f
read_told line t x whole y p f minus z blanks sign behind first rest point end zero =
    let text = behind_blanks line in
    let fraction : without_zeros (digits_behind_point (behind_digits x)) ≡ f =
    ap (λ (u : List ℕ). without_zeros (digits_behind_point u)) (sym rest) ∙ ap (λ (u : List ℕ). without_zeros u) (sym point) ∙ sym end in
    ap (λ (b : Bool). unsigned_of b (behind_sign text)) (ap (λ (u : List ℕ). has_sign u) (sym blanks) ∙ sym sign)
    ∙ ap (λ (u : List ℕ). unsigned_of minus u) (ap (λ (u : List ℕ). behind_sign u) (sym blanks) ∙ sym behind)
    ∙ ap (λ (u : List ℕ). signed minus (number u) (without_zeros (digits_behind_point (behind_digits x)))) (sym first)
    ∙ ap (λ (u : List ℕ). signed minus (number whole) u) fraction
    ∙ ap (λ (b : Bool). decimal (minus && not b) (number whole) f) (sym zero)
