-- A piece that is sent or given in parts.
use Rattle.std.proofs.Common.{◌≡◌, ℕ, ◌+◌, ◌<◌, List, [], ◌∷◌, ◌++◌, length, take, drop, Option, Some, None, sym, ap, ◌∙◌, refl, append_assoc, arith, length-drop}
use Rattle.std.proofs.lemmas.List.{take-append-drop}
use Rattle.std.proofs.Math.Seq.{take-add}
use Rattle.hs_outside.specs.Streams.{appended, NotEmpty, IsCut}

append-nil : (xs : List ℕ) → xs ++ [] ≡ xs
append-nil [] = refl
append-nil (x ∷ xs) = ap (λ (ys : List ℕ). x ∷ ys) (append-nil xs)

pub appended-nil : (o : Option (List ℕ)) → appended o [] ≡ o
appended-nil None = refl
appended-nil (Some xs) = ap Some (append-nil xs)

pub appended-append : (o : Option (List ℕ)) (xs ys : List ℕ) → appended (appended o xs) ys ≡ appended o (xs ++ ys)
appended-append None xs ys = refl
appended-append (Some zs) xs ys = ap Some (append_assoc zs xs ys)

pub sent_more : (old now new : Option (List ℕ)) (piece rest : List ℕ) (i n : ℕ) →
    now ≡ appended old (take i piece) → rest ≡ drop i piece → new ≡ appended now (take n rest) → new ≡ appended old (take (i + n) piece)
sent_more old now new piece rest i n e r f =
    f ∙ ap (λ (xs : List ℕ). appended now (take n xs)) r ∙ ap (λ (o : Option (List ℕ)). appended o (take n (drop i piece))) e ∙ appended-append old (take i piece) (take n (drop i piece))
    ∙ ap (λ (xs : List ℕ). appended old xs) (sym (take-add i n piece))

not-empty : (xs : List ℕ) → 0 < length xs → NotEmpty xs
not-empty [] h = absurd (omega arith)
not-empty (x ∷ xs) h = tt

pub sent_front : (old now new : Option (List ℕ)) (piece : List ℕ) (i : ℕ) →
    now ≡ appended old (take i piece) → i < length piece → new ≡ appended now [] → IsCut old new piece
sent_front old now new piece i e h f = record {
  front = take i piece;
  rest = drop i piece;
  whole = sym (take-append-drop i piece);
  unsent = not-empty (drop i piece) (omega (arith, length-drop i piece));
  went = f ∙ appended-nil now ∙ e;
}
