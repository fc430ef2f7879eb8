-- The value of `-n` of `tail`, by its first byte.
use Rattle.std.proofs.Common.{◌≡◌, ℕ, Bool, true, false, cond, List, drop, Option, Some, sym, ◌∙◌, ap}
use Rattle.util_text.specs.declared.ends.Ends.{Ends}
use Rattle.util_text.specs.declared.ends.Ends.TheVariants.{Last, From}
use Rattle.util_text.specs.Count.{number}
use Rattle.util_text.specs.Tail.{begins, ends_of, last_of, from_of}

pub ends-plus : (word rest : List ℕ) (n : ℕ) → begins 43 word ≡ true → rest ≡ drop 1 word → number rest ≡ Some n → ends_of word ≡ Some (From n)
ends-plus word rest n plus is digits =
    ap (λ (c : Bool). cond c (from_of (number (drop 1 word))) (cond (begins 45 word) (last_of (number (drop 1 word))) (last_of (number word)))) plus
    ∙ ap (λ (u : List ℕ). from_of (number u)) (sym is)
    ∙ ap (λ (o : Option ℕ). from_of o) digits

pub ends-minus : (word rest : List ℕ) (n : ℕ) → begins 43 word ≡ false → begins 45 word ≡ true → rest ≡ drop 1 word → number rest ≡ Some n → ends_of word ≡ Some (Last n)
ends-minus word rest n plus minus is digits =
    ap (λ (c : Bool). cond c (from_of (number (drop 1 word))) (cond (begins 45 word) (last_of (number (drop 1 word))) (last_of (number word)))) plus
    ∙ ap (λ (c : Bool). cond c (last_of (number (drop 1 word))) (last_of (number word))) minus
    ∙ ap (λ (u : List ℕ). last_of (number u)) (sym is)
    ∙ ap (λ (o : Option ℕ). last_of o) digits

pub ends-plain : (word : List ℕ) (n : ℕ) → begins 43 word ≡ false → begins 45 word ≡ false → number word ≡ Some n → ends_of word ≡ Some (Last n)
ends-plain word n plus minus digits =
    ap (λ (c : Bool). cond c (from_of (number (drop 1 word))) (cond (begins 45 word) (last_of (number (drop 1 word))) (last_of (number word)))) plus
    ∙ ap (λ (c : Bool). cond c (last_of (number (drop 1 word))) (last_of (number word))) minus
    ∙ ap (λ (o : Option ℕ). last_of o) digits
