-- The number that digits write, digit by digit.
use Rattle.std.proofs.Common.{◌≡◌, ℕ, ◌+◌, ◌*◌, ◌-◌, ◌<◌, Bool, true, false, cond, List, [], ◌∷◌, length, drop, get_or, Option, None, Some, refl, sym, ◌∙◌, ap, arith}
use Rattle.std.specs.Char.{is_ascii_digit}
use Rattle.std.proofs.lemmas.List.{at_drop_more, at_drop_all}
use Rattle.util_text.specs.Count.{number_from, number}

pub number-begin : (word : List ℕ) → 0 < length word → number word ≡ number_from 0 word
number-begin [] h = absurd (omega arith)
number-begin (b ∷ bs) h = refl

pub number-step : (word : List ℕ) (i n : ℕ) → i < length word → is_ascii_digit (get_or word i 0) ≡ true →
    number_from n (drop i word) ≡ number_from (n * 10 + (get_or word i 0 - 48)) (drop (i + 1) word)
number-step word i n h digit =
    at_drop_more (λ (u : List ℕ). number_from n u) word i 0 h
    ∙ ap (λ (d : Bool). cond d (number_from (n * 10 + (get_or word i 0 - 48)) (drop (i + 1) word)) None) digit

pub number-stop : (word : List ℕ) (i n : ℕ) → i < length word → is_ascii_digit (get_or word i 0) ≡ false → number_from n (drop i word) ≡ None
number-stop word i n h digit =
    at_drop_more (λ (u : List ℕ). number_from n u) word i 0 h
    ∙ ap (λ (d : Bool). cond d (number_from (n * 10 + (get_or word i 0 - 48)) (drop (i + 1) word)) None) digit
