-- Bytes that are filled in.
use Rattle.std.proofs.Common.{◌≡◌, ℕ, ◌+◌, ◌-◌, List, ◌++◌, length, take, replicate, Result, Ok, Err, OnOk, is_ok, if◌then◌else◌, ap, ◌∙◌, arith}
use Rattle.std.proofs.lemmas.List.{take_all}

pub filled : {E : Type 0} (r : Result (Unit {0}) E) (old new : List ℕ) (n count len b : ℕ) → n ≡ len + count → len ≡ length old → new ≡ (if is_ok r then take n old ++ replicate (n - len) b else old) → OnOk r (new ≡ old ++ replicate count b)
filled (Ok x) old new n count len b e l h =
    let more : n - len ≡ count = omega arith in
    h ∙ ap (λ (u : List ℕ). u ++ replicate (n - len) b) (take_all n old (omega arith)) ∙ ap (λ (k : ℕ). old ++ replicate k b) more
filled (Err x) old new n count len b e l h = tt
