-- Formats that are read part by part.
use Rattle.std.proofs.Common.{◌≡◌, ◌<◌, ℕ, zero, suc, List, [], ◌∷◌, ◌++◌, length, drop, Option, Some, None, refl, sym, ap, ◌∙◌, append_assoc, append-nil, length-drop, arith}
use Rattle.util_print.specs.Formats.{part_at, part_then, parts_behind, with_part}
use Rattle.util_print.specs.declared.format.Part.{Part}

-- parts, and those of what is left
abbrev pub prefixed : List Part → Option (List Part) → Option (List Part)
prefixed ps None = None
prefixed ps (Some qs) = Some (ps ++ qs)

pub prefixed_none : (ps : List Part) (o : Option (List Part)) → ps ≡ [] → prefixed ps o ≡ o
prefixed_none ps None e = refl
prefixed_none ps (Some qs) e = ap (λ (rs : List Part). Some (rs ++ qs)) e

pushed : (ps : List Part) (p : Part) (o : Option (List Part)) → prefixed (ps ++ p ∷ []) o ≡ prefixed ps (with_part p o)
pushed ps p None = refl
pushed ps p (Some qs) = ap Some (append_assoc ps (p ∷ []) qs)

behind_drop : (n : ℕ) (bs : List ℕ) → parts_behind n bs ≡ parts_behind 0 (drop n bs)
behind_drop zero bs = refl
behind_drop (suc n) [] = refl
behind_drop (suc n) (b ∷ bs) = behind_drop n bs

pub part_more : (ps new : List Part) (rest bs next : List ℕ) (b n : ℕ) (p : Part) (whole : Option (List Part)) → rest ≡ b ∷ bs → part_at b bs ≡ Some (p, n) → new ≡ ps ++ p ∷ [] → next ≡ drop n bs
    → prefixed ps (parts_behind 0 rest) ≡ whole → prefixed new (parts_behind 0 next) ≡ whole
part_more ps new rest bs next b n p whole r at more d e =
    ap (λ (qs : List Part). prefixed qs (parts_behind 0 next)) more
    ∙ pushed ps p (parts_behind 0 next)
    ∙ ap (λ (u : List ℕ). prefixed ps (with_part p (parts_behind 0 u))) d
    ∙ ap (λ (o : Option (List Part)). prefixed ps (with_part p o)) (sym (behind_drop n bs))
    ∙ ap (λ (x : Option (Part × ℕ)). prefixed ps (part_then x (λ m. parts_behind m bs))) (sym at)
    ∙ ap (λ (u : List ℕ). prefixed ps (parts_behind 0 u)) (sym r)
    ∙ e

pub part_shorter : (rest bs next : List ℕ) (b n : ℕ) → rest ≡ b ∷ bs → next ≡ drop n bs → length next < length rest
part_shorter rest bs next b n r d = omega (arith, length-drop n bs, ap (λ (u : List ℕ). length u) r, ap (λ (u : List ℕ). length u) d)

pub part_bad : (ps : List Part) (rest bs : List ℕ) (b : ℕ) (whole : Option (List Part)) → rest ≡ b ∷ bs → part_at b bs ≡ None → prefixed ps (parts_behind 0 rest) ≡ whole → None ≡ whole
part_bad ps rest bs b whole r at e =
    ap (λ (x : Option (Part × ℕ)). prefixed ps (part_then x (λ m. parts_behind m bs))) (sym at)
    ∙ ap (λ (u : List ℕ). prefixed ps (parts_behind 0 u)) (sym r)
    ∙ e

pub part_end : (ps : List Part) (rest : List ℕ) (whole : Option (List Part)) → rest ≡ [] → prefixed ps (parts_behind 0 rest) ≡ whole → Some ps ≡ whole
part_end ps rest whole r e =
    ap Some (sym (append-nil ps))
    ∙ ap (λ (u : List ℕ). prefixed ps (parts_behind 0 u)) (sym r)
    ∙ e
