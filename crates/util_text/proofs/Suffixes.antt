-- The last lines of a text are its end.
use Rattle.std.proofs.Common.{◌≡◌, ℕ, ◌+◌, ◌-◌, List, ◌++◌, length, take, drop, sym, ap, ◌∙◌, arith}
use Rattle.std.specs.List.{concat}
use Rattle.std.proofs.Math.Seq.{drop-append_seam}
use Rattle.std.proofs.lemmas.List.{length-append, take-append-drop}
use Rattle.std.proofs.lemmas.List.Folds.{concat-append}
use Rattle.util_text.specs.Lines.{pieces}
use Rattle.util_text.specs.Tail.{tail}
use Rattle.util_text.specs.declared.ends.Ends.{Ends}
use Rattle.util_text.specs.declared.ends.Ends.TheVariants.{From, Last}
use Rattle.util_text.proofs.Pieces.{concat-pieces}

behind : (front back text : List ℕ) → front ++ back ≡ text → drop (length text - length back) text ≡ back
behind front back text e =
    let len : length text ≡ length front + length back = ap (λ (xs : List ℕ). length xs) (sym e) ∙ length-append front back in
    let at : length text - length back ≡ length front = omega (arith, len) in
    ap (λ (n : ℕ). drop n text) at ∙ ap (λ (xs : List ℕ). drop (length front) xs) (sym e) ∙ drop-append_seam front back

last_lines_behind : (k : ℕ) (text : List ℕ) → drop (length text - length (concat (drop k (pieces text)))) text ≡ concat (drop k (pieces text))
last_lines_behind k text =
    behind (concat (take k (pieces text))) (concat (drop k (pieces text))) text
    (sym (concat-append (take k (pieces text)) (drop k (pieces text))) ∙ ap concat (take-append-drop k (pieces text)) ∙ concat-pieces text)

pub tail_behind : (exact : Ends) (text : List ℕ) → drop (length text - length (tail exact text)) text ≡ tail exact text
tail_behind (Last n) text = last_lines_behind (length (pieces text) - n) text
tail_behind (From n) text = last_lines_behind (n - 1) text
