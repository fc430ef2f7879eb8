-- Words that write numbers.
use Rattle.std.proofs.Common.{◌≡◌, ℕ, zero, suc, ◌<◌, ◌≤◌, ◌^◌, Bool, true, false, cond, eqb, List, [], ◌∷◌, length, refl, sym, ap, ◌∙◌, arith, w64}
use Rattle.std.specs.Prelude.{◌&&◌, nat_lt, nat_le, ℤ, pos, neg_ℤ, Option, None, Some, Result, Ok, Err}
use Rattle.std.specs.Char.{is_ascii_digit}
use Rattle.std.specs.Result.{OkIff, result_ok}
use Rattle.std.specs.Str.{IsAscii, IsUtf8, all_ascii_digits}
use Rattle.std.specs.Str.Parse.{ParsesSigned, digits_value}
use Rattle.std.proofs.lemmas.Bool.{and_from, and_left, and_parts, eqb-true, eqb-false, false_from_ne_true, leb-true, le-leb, ltb-true, lt-ltb}
use Rattle.std.proofs.lemmas.Str.{IsUtf8-from_ascii}
use Rattle.std.proofs.lemmas.Str.Parse.{IsNumeralModel, numerals_by_value, parse_signed_digits, parse_signed_minus, parse_signed_plain, parse_signed_plus, tells_all_ascii_digits}
use Rattle.util_test.specs.Numbers.{is_digits, negative, number, positive}

own : IsNumeralModel (λ ds. all_ascii_digits ds ≡ true) (digits_value 10)
own = numerals_by_value _ tells_all_ascii_digits

-- ---- by a test

by_test : {E : Type 0} (r : Result ℤ E) (Q : Type 0) (z : ℤ) (t : Bool) → OkIff r Q z → (Q → t ≡ true) → (t ≡ true → Q) → result_ok r ≡ cond t (Some z) None
by_test (Ok y) Q z t h f g = ap (λ (x : ℤ). Some x) h.1 ∙ ap (λ (u : Bool). cond u (Some z) None) (sym (f h.0))
by_test (Err e) Q z t h f g = ap (λ (u : Bool). cond u (Some z) None) (sym (false_from_ne_true t (λ e. h (g e))))

false_true : false ≡ true → ⊥
false_true h = cc

digits_from : (ds : List ℕ) → all_ascii_digits ds ≡ true → 0 < length ds → is_digits ds ≡ true
digits_from [] h l = absurd (omega arith)
digits_from (d ∷ ds) h l = h

digits_to : (ds : List ℕ) → is_digits ds ≡ true → (all_ascii_digits ds ≡ true) × (0 < length ds)
digits_to [] h = absurd (false_true h)
digits_to (d ∷ ds) h = (h, omega arith)

plain : {E : Type 0} (ds : List ℕ) (r : Result ℤ E) → OkIff r ((all_ascii_digits ds ≡ true) × (0 < length ds) × (digits_value 10 ds < 2 ^ 63)) (pos (digits_value 10 ds)) → result_ok r ≡ positive ds
plain ds r h =
    by_test r _ (pos (digits_value 10 ds)) (is_digits ds && nat_lt (digits_value 10 ds) (2 ^ 63)) h
    (λ q. and_from (is_digits ds) (nat_lt (digits_value 10 ds) (2 ^ 63)) (digits_from ds q.0 q.1) (lt-ltb (digits_value 10 ds) (2 ^ 63) q.2))
    (λ t.
    let p = and_parts (is_digits ds) (nat_lt (digits_value 10 ds) (2 ^ 63)) t in
    let d = digits_to ds p.0 in
    (d.0, d.1, ltb-true (digits_value 10 ds) (2 ^ 63) p.1))

minus : {E : Type 0} (ds : List ℕ) (r : Result ℤ E) → OkIff r ((all_ascii_digits ds ≡ true) × (0 < length ds) × (digits_value 10 ds ≤ 2 ^ 63)) (neg_ℤ (pos (digits_value 10 ds))) → result_ok r ≡ negative ds
minus ds r h =
    by_test r _ (neg_ℤ (pos (digits_value 10 ds))) (is_digits ds && nat_le (digits_value 10 ds) (2 ^ 63)) h
    (λ q. and_from (is_digits ds) (nat_le (digits_value 10 ds) (2 ^ 63)) (digits_from ds q.0 q.1) (le-leb (digits_value 10 ds) (2 ^ 63) q.2))
    (λ t.
    let p = and_parts (is_digits ds) (nat_le (digits_value 10 ds) (2 ^ 63)) t in
    let d = digits_to ds p.0 in
    (d.0, d.1, leb-true (digits_value 10 ds) (2 ^ 63) p.1))

choose : (a b : Bool) (x y z o : Option ℤ) → (a ≡ true → o ≡ x) → (a ≡ false → b ≡ true → o ≡ y) → (a ≡ false → b ≡ false → o ≡ z) → o ≡ cond a x (cond b y z)
choose true b x y z o f g h = f refl
choose false true x y z o f g h = g refl refl
choose false false x y z o f g h = h refl refl

none : {E : Type 0} (r : Result ℤ E) → OkIff r ((0 < 0) × (digits_value 10 [] < 2 ^ 63)) (pos (digits_value 10 [])) → OkIff r ((all_ascii_digits [] ≡ true) × (0 < 0) × (digits_value 10 [] < 2 ^ 63)) (pos (digits_value 10 []))
none (Ok x) h = absurd (omega (arith, h.0.0))
none (Err e) h = λ q. h (q.1, q.2)

pub parsed : {E : Type 0} (word : List ℕ) (r : Result ℤ E) → ParsesSigned w64 10 word r → result_ok r ≡ number word
parsed [] r h = plain [] r (none r (parse_signed_digits own w64 [] r h refl))
parsed (b ∷ bs) r h =
    choose (eqb b 45) (eqb b 43) (negative bs) (positive bs) (positive (b ∷ bs)) (result_ok r)
    (λ e. minus bs r (parse_signed_minus own w64 (b ∷ bs) r h (eqb-true b 45 e)))
    (λ e f. plain bs r (parse_signed_plus own w64 (b ∷ bs) r h (eqb-true b 43 f)))
    (λ e f. plain (b ∷ bs) r (parse_signed_plain own w64 (b ∷ bs) r h (eqb-false b 43 f) (eqb-false b 45 e)))

-- ---- words that are no text

digit_ascii : (c : ℕ) → is_ascii_digit c ≡ true → c < 128
digit_ascii c h = let p = leb-true c 57 (and_parts (nat_le 48 c) (nat_le c 57) h).1 in omega arith

digits_ascii : (ds : List ℕ) → all_ascii_digits ds ≡ true → IsAscii ds
digits_ascii [] h i = omega arith
digits_ascii (d ∷ ds) h zero = digit_ascii d (and_parts (is_ascii_digit d) (all_ascii_digits ds) h).0
digits_ascii (d ∷ ds) h (suc i) = digits_ascii ds (and_parts (is_ascii_digit d) (all_ascii_digits ds) h).1 i

onto_ascii : (b : ℕ) (bs : List ℕ) → b < 128 → IsAscii bs → IsAscii (b ∷ bs)
onto_ascii b bs l h zero = l
onto_ascii b bs l h (suc i) = h i

no_digits : (ds : List ℕ) → (all_ascii_digits ds ≡ true → ⊥) → is_digits ds ≡ false
no_digits [] h = refl
no_digits (d ∷ ds) h = false_from_ne_true (all_ascii_digits (d ∷ ds)) h

not_positive : (ds : List ℕ) → (all_ascii_digits ds ≡ true → ⊥) → positive ds ≡ None
not_positive ds h = ap (λ (u : Bool). cond u (Some (pos (digits_value 10 ds))) None) (and_left (is_digits ds) (nat_lt (digits_value 10 ds) (2 ^ 63)) (no_digits ds h))

not_negative : (ds : List ℕ) → (all_ascii_digits ds ≡ true → ⊥) → negative ds ≡ None
not_negative ds h = ap (λ (u : Bool). cond u (Some (neg_ℤ (pos (digits_value 10 ds)))) None) (and_left (is_digits ds) (nat_le (digits_value 10 ds) (2 ^ 63)) (no_digits ds h))

pub no_text : (word : List ℕ) → (IsUtf8 word → ⊥) → None ≡ number word
no_text [] h = refl
no_text (b ∷ bs) h =
    choose (eqb b 45) (eqb b 43) (negative bs) (positive bs) (positive (b ∷ bs)) None
    (λ e. sym (not_negative bs (λ d. let l = eqb-true b 45 e in h (IsUtf8-from_ascii (b ∷ bs) (onto_ascii b bs (omega arith) (digits_ascii bs d))))))
    (λ e f. sym (not_positive bs (λ d. let l = eqb-true b 43 f in h (IsUtf8-from_ascii (b ∷ bs) (onto_ascii b bs (omega arith) (digits_ascii bs d))))))
    (λ e f. sym (not_positive (b ∷ bs) (λ d. h (IsUtf8-from_ascii (b ∷ bs) (digits_ascii (b ∷ bs) d)))))
