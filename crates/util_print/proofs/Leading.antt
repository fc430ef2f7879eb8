-- Numbers that are read digit by digit.
use Rattle.std.proofs.Common.{◌≡◌, ℕ, Bool, true, false, List, [], ◌∷◌, Option, Some, None, sym, ap, ◌∙◌}
use Rattle.util_print.specs.Numerals.{digit_then, leading, with_digit}

pub digit_more : (radix most n b m : ℕ) (bs us : List ℕ) (whole : ℕ × Bool) → us ≡ b ∷ bs → with_digit radix most n b ≡ Some m → leading radix most n us ≡ whole → leading radix most m bs ≡ whole
digit_more radix most n b m bs us whole u at e =
    ap (λ (x : Option ℕ). digit_then x n (λ k. leading radix most k bs)) (sym at)
    ∙ ap (λ (rs : List ℕ). leading radix most n rs) (sym u)
    ∙ e

pub digit_none : (radix most n b : ℕ) (bs us : List ℕ) (whole : ℕ × Bool) → us ≡ b ∷ bs → with_digit radix most n b ≡ None → leading radix most n us ≡ whole → (n, false) ≡ whole
digit_none radix most n b bs us whole u at e =
    ap (λ (x : Option ℕ). digit_then x n (λ k. leading radix most k bs)) (sym at)
    ∙ ap (λ (rs : List ℕ). leading radix most n rs) (sym u)
    ∙ e

pub digit_end : (radix most n : ℕ) (us : List ℕ) (whole : ℕ × Bool) → us ≡ [] → leading radix most n us ≡ whole → (n, true) ≡ whole
digit_end radix most n us whole u e = ap (λ (rs : List ℕ). leading radix most n rs) (sym u) ∙ e
