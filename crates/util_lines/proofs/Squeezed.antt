-- A text, byte by byte.
use Rattle.std.proofs.Common.{◌≡◌, ℕ, Bool, true, false, not, cond, List, [], ◌∷◌, ◌++◌, map, refl, sym, ◌∙◌, ap, append_assoc, append-nil}
use Rattle.std.specs.Option.{option_or}
use Rattle.std.specs.Prelude.{Option, None, Some, ◌&&◌, option_to_list}
use Rattle.util_lines.specs.ByteSet.{has}
use Rattle.util_lines.specs.Transliterate.{Job, image, kept, put_for, put_of, repeats, squeezed, translated}

module _ (f : ℕ → ℕ) (set : List ℕ) (last : Option ℕ) (b : ℕ) (ys : List ℕ) where
  left_out : (d s : Bool) → (repeats last (f b) && has set (f b)) ≡ s → put_of d s (f b) ≡ None → squeezed set last (map f (cond (not d) (b ∷ ys) ys)) ≡ squeezed set last (map f ys)
  left_out true s e k = refl
  left_out false true e k = ap (λ (c : Bool). cond c (squeezed set last (map f ys)) (f b ∷ squeezed set (Some (f b)) (map f ys))) e
  left_out false false e k = absurd cc

  put_out : (d s : Bool) (x : ℕ) → (repeats last (f b) && has set (f b)) ≡ s → put_of d s (f b) ≡ Some x
      → squeezed set last (map f (cond (not d) (b ∷ ys) ys)) ≡ x ∷ squeezed set (Some x) (map f ys)
  put_out true s x e k = absurd cc
  put_out false true x e k = absurd cc
  put_out false false x e k =
      let same : f b ≡ x = cc in
      ap (λ (c : Bool). cond c (squeezed set last (map f ys)) (f b ∷ squeezed set (Some (f b)) (map f ys))) e
      ∙ ap (λ (z : ℕ). z ∷ squeezed set (Some z) (map f ys)) same

-- what is still to be written, behind the last byte
abbrev pub left_of : Job → Option ℕ → List ℕ → List ℕ
left_of job last text = squeezed job.squeezes last (translated job text)

-- a byte for which nothing is written
byte_left : (job : Job) (last : Option ℕ) (b : ℕ) (rest out whole : List ℕ) → put_for job last b ≡ None → out ++ left_of job last (b ∷ rest) ≡ whole → out ++ left_of job last rest ≡ whole
byte_left job last b rest out whole k w =
    let x = image job.from job.to b in
    ap (λ (u : List ℕ). out ++ u)
    (sym (left_out (λ y. image job.from job.to y) job.squeezes last b (kept job rest) (has job.deletes b) (repeats last x && has job.squeezes x) refl k))
    ∙ w

-- a byte that is written
byte_put : (job : Job) (last : Option ℕ) (b x : ℕ) (rest out whole : List ℕ) → put_for job last b ≡ Some x → out ++ left_of job last (b ∷ rest) ≡ whole
    → (out ++ x ∷ []) ++ left_of job (Some x) rest ≡ whole
byte_put job last b x rest out whole k w =
    let y = image job.from job.to b in
    append_assoc out (x ∷ []) (left_of job (Some x) rest)
    ∙ ap (λ (u : List ℕ). out ++ u)
    (sym (put_out (λ z. image job.from job.to z) job.squeezes last b (kept job rest) (has job.deletes b) (repeats last y && has job.squeezes y) x refl k))
    ∙ w

byte_next : (job : Job) (last o : Option ℕ) (b : ℕ) (rest out whole : List ℕ) → put_for job last b ≡ o → out ++ left_of job last (b ∷ rest) ≡ whole
    → (out ++ option_to_list o) ++ left_of job (option_or o last) rest ≡ whole
byte_next job last None b rest out whole k w = ap (λ (u : List ℕ). u ++ left_of job last rest) (append-nil out) ∙ byte_left job last b rest out whole k w
byte_next job last (Some x) b rest out whole k w = byte_put job last b x rest out whole k w

-- one byte more
pub byte_done : (job : Job) (last o next : Option ℕ) (b : ℕ) (text rest out new whole : List ℕ) → text ≡ b ∷ rest → o ≡ put_for job last b → next ≡ option_or o last → new ≡ out ++ option_to_list o
    → out ++ left_of job last text ≡ whole → new ++ left_of job next rest ≡ whole
byte_done job last o next b text rest out new whole t k n e w =
    ap (λ (u : List ℕ). u ++ left_of job next rest) e
    ∙ ap (λ (p : Option ℕ). (out ++ option_to_list o) ++ left_of job p rest) n
    ∙ byte_next job last o b rest out whole (sym k) (ap (λ (u : List ℕ). out ++ left_of job last u) (sym t) ∙ w)

pub all_done : (job : Job) (last : Option ℕ) (text out whole : List ℕ) → text ≡ [] → out ++ left_of job last text ≡ whole → out ≡ whole
all_done job last text out whole t w = sym (append-nil out) ∙ ap (λ (u : List ℕ). out ++ left_of job last u) (sym t) ∙ w
