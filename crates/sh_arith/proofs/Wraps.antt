-- Operators on numbers that fit.
use Rattle.std.proofs.Common.{◌≡◌, ℤ, Bool, false, sym, ap, ◌∙◌, w64, FitsSigned, to_z, of_z}
use Rattle.std.proofs.lemmas.Int.{to_z-of_z, wrapping_neg_is}
use Rattle.std.specs.Prelude.{if◌then◌else◌}
use Rattle.std.specs.Int.{int_wrapping_neg, int_wrapping_div}
use Rattle.sh_arith.specs.Value.{gives, fails, by_zero, is_zero, quotient, negated}

abbrev pub bits_of : ℤ → ℤ
bits_of z = to_z w64 (of_z w64 z)

pub same : (a : ℤ) → FitsSigned w64 a → bits_of a ≡ a
same a f = to_z-of_z w64 a f

pub negated-is : (a r : ℤ) → FitsSigned w64 a → FitsSigned w64 r → r ≡ int_wrapping_neg w64 (bits_of a) → bits_of r ≡ negated a
negated-is a r f g e = same r g ∙ e ∙ ap (int_wrapping_neg w64) (same a f) ∙ wrapping_neg_is w64 a f

pub quotient-is : (a b r : ℤ) (z : Bool) → FitsSigned w64 a → FitsSigned w64 b → FitsSigned w64 r → z ≡ is_zero (bits_of b) → z ≡ false →
    r ≡ int_wrapping_div w64 (bits_of a) (bits_of b) → quotient a b ≡ gives (bits_of r)
quotient-is a b r z f g h e n q =
    let nonzero : is_zero b ≡ false = ap is_zero (sym (same b g)) ∙ sym e ∙ n in
    let one : bits_of r ≡ int_wrapping_div w64 a b = same r h ∙ q ∙ ap (λ (x : ℤ). int_wrapping_div w64 x (bits_of b)) (same a f) ∙ ap (int_wrapping_div w64 a) (same b g) in
    ap (λ (t : Bool). if t then fails by_zero else gives (int_wrapping_div w64 a b)) nonzero ∙ ap gives (sym one)
