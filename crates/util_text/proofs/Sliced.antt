-- What is cut.
use Rattle.std.proofs.Common.{◌≡◌, ℕ, List, sym, ap, ◌∙◌}
use Rattle.std.specs.Prelude.{Result, Ok, Err, IfOk}
use Rattle.util_common.specs.Operands.{Writer}
use Rattle.util_text.specs.Places.{Range}
use Rattle.util_text.specs.Selected.{Selects}
use Rattle.util_text.specs.Slicing.{Slicing, cut_text, cuts}
use Rattle.util_text.specs.declared.slicing.Cuts.{Cuts}

pub sliced : {E : Type 0} (filter : Cuts) (text : Writer) (before : List (List ℕ)) (word content bytes : List ℕ) (r : Result (List ℕ) E) → Slicing filter text
    → IfOk r (λ t. (ranges : List Range) → Selects filter.selection ranges → t ≡ cut_text filter.items ranges bytes) → bytes ≡ content → IfOk r (λ out. out ≡ text before word content)
sliced filter text before word content bytes (Ok t) h f b = f h.exact h.stands ∙ ap (cut_text filter.items h.exact) b ∙ ap (λ (w : Writer). w before word content) (sym h.is)
sliced filter text before word content bytes (Err e) h f b = tt
