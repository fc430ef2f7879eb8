-- Lines that are cut, and widths.
use Rattle.std.proofs.Common.{◌≡◌, ℕ, zero, suc, List, refl, sym, ap, ◌∙◌, subst, arith}
use Rattle.std.specs.Prelude.{Option, Some, None, Result, Ok, Err, IfOk, IfErr, IsErr, IsErrAnd}
use Rattle.util_common.specs.Operands.{Writer}
use Rattle.util_common.specs.declared.words.WordErr.{WordErr}
use Rattle.util_common.specs.declared.words.WordErr.TheVariants as err
use Rattle.util_text.specs.Count.{StandsFor}
use Rattle.util_text.specs.Fold.{fold}
use Rattle.util_text.specs.Numbers.{RefusesNumber}
use Rattle.util_text.specs.Wrapping.{Folding, folds, positive}
use Rattle.util_text.specs.declared.wrapping.Folds.{Folds}

pub wrapped : {E : Type 0} (filter : Folds) (text : Writer) (before : List (List ℕ)) (word content bytes : List ℕ) (r : Result (List ℕ) E) → Folding filter text → IfOk r (λ t. (n : ℕ) → StandsFor filter.width.bytes n → t ≡ fold n bytes) → bytes ≡ content
    → IfOk r (λ out. out ≡ text before word content)
wrapped filter text before word content bytes (Ok t) h f b = f h.exact h.stands ∙ ap (fold h.exact) b ∙ ap (λ (w : Writer). w before word content) (sym h.is)
wrapped filter text before word content bytes (Err e) h f b = tt

-- ---- widths

pub wide : (n width : ℕ) → StandsFor width n → (width ≡ 0 → ⊥) → positive (Some n) ≡ Some n
wide zero width s h = absurd (h s)
wide (suc n) width s h = refl

pub no_width : (n width : ℕ) → StandsFor width n → width ≡ 0 → positive (Some n) ≡ None
no_width zero width s h = refl
no_width (suc n) width s h = absurd (omega arith)

pub narrowed : (e : WordErr) (o : Option ℕ) → RefusesNumber e o → RefusesNumber e (positive o)
narrowed (err.Refused why) o a = (a.0, ap positive a.1)
narrowed err.NoMemory o a = tt

pub refuses_on : {X : Type 0} (r : Result X WordErr) (e : WordErr) (o : Option ℕ) → IsErr r → IsErrAnd r (λ i. i ≡ e) → RefusesNumber e o → IfErr r (λ i. RefusesNumber i o)
refuses_on (Err i) e o a b h = subst (λ (x : WordErr). RefusesNumber x o) (sym b) h
refuses_on (Ok x) e o a b h = absurd b
